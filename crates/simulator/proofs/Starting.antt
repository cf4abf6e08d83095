-- The start state's constants: their product fits, and an image and a capture that are not refused have such counts. Assumes nothing.
use mathlib.Core.Path.{◌≡◌, ap, ◌∙◌}
use mathlib.Core.List.{List}
use Prim.Native.Nat.{ℕ, ◌+◌, ◌*◌, ◌<◌, ◌≤◌}
use native.Mathlib.Nat.{zero-mul, mul-le-mul, mul-pos}
use native.Mathlib.Omega.{arith}
use mir.Val.{Fits}
use mir.Syntax.{w32}
use Rattle.image.specs.declared.Sizes.{Sizes}
use Rattle.image.specs.Format
use Rattle.image.specs.Image.{sizes_of}
use Rattle.image.specs.Refusals.{Unrefused}
use Rattle.image.proofs.Rules.{good}
use Rattle.machine.specs.Run.{config, number_by}
use Rattle.simulator.specs.Code.Checked.{FewEnough}

module _ {s : Sizes} (y : FewEnough s) where
  pub stride_fits : Fits w32 (s.places * s.symbols)
  stride_fits =
      let h : s.places * s.symbols ≤ Format.max_places * Format.max_symbols =
      mul-le-mul {n₂ = Format.max_places} {m₂ = Format.max_symbols} y.places_most y.symbols_most in
      omega arith

  pub both_some : (0 < s.symbols) × (0 < s.places * s.symbols)
  both_some = (y.symbols_some, mul-pos y.places_some y.symbols_some)

pub few_enough : {bs cs : List ℕ} → Unrefused bs cs → {s : Sizes} → s ≡ sizes_of bs cs → FewEnough s
unfolding sizes_of
few_enough u q =
    rw
    q
    (record {
      symbols_some = (good u).symbols_least;
      symbols_most = (good u).symbols_most;
      places_some = omega arith;
      places_most = omega (arith, u.short);
    })

-- the start configuration's number
pub number_zero : (m g : ℕ) → number_by m g (config 0 0 0) ≡ 0
unfolding number_by
number_zero m g =
    let a : 0 * m ≡ 0 = zero-mul m in
    let b : (0 * m + 0) * g ≡ 0 = ap (λ (x : ℕ). (x + 0) * g) a ∙ zero-mul g in
    omega arith
