-- Request (c): in every record that a chain reaches, the number kept is that of the configuration kept beside it. Assumes nothing: these are definitions.
use Rattle.std.specs.Prelude.{◌≡◌, List, ℕ}
use Rattle.machine.specs.declared.Config.{Config}
use Rattle.machine.specs.Run.{ValidConfig, number}
use Rattle.image.specs.Image.{machine}
use Rattle.image.specs.Refusals.{Unrefused}
use Rattle.chain.specs.Chain.{Chain, reached}

-- after n steps: the number kept, and that the configuration beside it is one of the machine's
pub record KeepsNumber {S : Type 0} (c : Chain S) (kept : S → ℕ) (beside : S → Config) (bs cs : List ℕ) (n : ℕ) : Type 0 where
  pub is : kept (reached c bs cs n).state ≡ number (machine bs cs) (beside (reached c bs cs n).state)
  pub there : ValidConfig (machine bs cs) (beside (reached c bs cs n).state)

-- at every step, up to the verdict and past it
abbrev pub NumberKept : {S : Type 0} → Chain S → (kept : S → ℕ) → (beside : S → Config) → Type 0
NumberKept c kept beside = (bs cs : List ℕ) (n : ℕ) → Unrefused bs cs → KeepsNumber c kept beside bs cs n
