-- Of open notes: their parts can be told, and the one that the stack names is kept where other cells are set. Assumes nothing.
use mathlib.Core.Path.{◌≡◌, refl, sym, ap, ◌∙◌}
use mathlib.Core.Bool.{Bool, true, false}
use mathlib.Core.List.{List}
use Prim.Native.Nat.{ℕ, ◌+◌, ◌*◌, ◌-◌, ◌/◌, ◌%◌, ◌<◌, ◌≤◌}
use native.Mathlib.Omega.{arith}
use borrow.Author.Tests.{ne_eqb}
use mir.Val.{Fits}
use mir.Syntax.{w64}
use lib.ListN.{get_or, set, length-set}
use lib.Seq.{get_or-set_other}
use Rattle.image.specs.Format
use Rattle.machine.specs.declared.Config.{Config}
use Rattle.machine.specs.Run.{config, number_by}
use Rattle.machine.proofs.Digits.{low_digit, middle_digit}
use Rattle.chain.specs.declared.Mode.TheVariants.{Look}
use Rattle.chain.specs.declared.Environment.{Environment}
use Rattle.chain.specs.declared.Registers.{Registers}
use Rattle.chain.specs.Cells.{open_bit, open_note, head_told, symbol_told}
use Rattle.chain.specs.Step.{number_in, after_pop}
use Rattle.chain.specs.Code.Ready.{OpenAt}
use Rattle.chain.specs.Code.NumberParts.{u32_end, Constants, ConfigBelow}
use Rattle.chain.specs.Code.StepParts.{registers_with, PopReady}
use Rattle.chain.proofs.NumberLaws.{number_few, by_row}

-- one that no push entered
pub open_changed : (c : Config) {b : Bool} → b ≡ false → open_bit + c.head * 256 + c.symbol * 2 ≡ open_note c b
open_changed c e = rw e (omega arith)

-- the parts
pub told_head : (c : Config) (b : Bool) → c.head < Format.max_places → c.symbol < Format.max_symbols → head_told (open_note c b) ≡ c.head
told_head c true i a = omega arith
told_head c false i a = omega arith

pub told_symbol : (c : Config) (b : Bool) → c.symbol < Format.max_symbols → symbol_told (open_note c b) ≡ c.symbol
told_symbol c true a = omega arith
told_symbol c false a = omega arith

pub open_least : (c : Config) (b : Bool) → open_bit ≤ open_note c b
open_least c b = omega arith

-- THE CONFIGURATION that work cell j names: what its note tells is what its number says
module _ {E : Environment} {ns ws : List ℕ} {j : ℕ} (o : OpenAt E ns ws j) where
  pub symbol_said : get_or ws j 0 % E.sizes.symbols ≡ o.config.symbol
  unfolding number_by
  symbol_said = rw o.number_is (low_digit o.config.state o.config.head E.sizes.places o.symbol_below)

  pub head_said : get_or ws j 0 / E.sizes.symbols % E.sizes.places ≡ o.config.head
  unfolding number_by
  head_said = rw o.number_is (middle_digit o.config.state o.head_below o.symbol_below)

  pub noted : get_or ns (get_or ws j 0) 0 ≡ 0 → ⊥
  noted z = omega (arith, o.note_is, open_least o.config o.pushed)

  module _ (k : Constants E) where
    pub symbol_is : {v : ℕ} → v ≡ symbol_told (get_or ns (get_or ws j 0) 0) → v ≡ get_or ws j 0 % E.sizes.symbols
    symbol_is e =
        e ∙ ap symbol_told o.note_is ∙ told_symbol o.config o.pushed (omega (arith, o.symbol_below, k.symbols_most))
        ∙ sym symbol_said

    pub pointer_is : {v : ℕ} → v ≡ head_told (get_or ns (get_or ws j 0) 0) → v ≡ get_or ws j 0 / E.sizes.symbols % E.sizes.places
    pointer_is e =
        e ∙ ap head_told o.note_is
        ∙ told_head o.config o.pushed (omega (arith, o.head_below, k.places_most)) (omega (arith, o.symbol_below, k.symbols_most))
        ∙ sym head_said

    pub pointer_low : {v : ℕ} → v ≡ head_told (get_or ns (get_or ws j 0) 0) → v < E.sizes.places
    pointer_low e = omega (arith, pointer_is e, head_said, o.head_below)

  pub number_cast : Fits w64 (get_or ws j 0)
  number_cast = omega (arith, o.number_fits)

  pub number_offset : Fits w64 (get_or ws j 0 * 4)
  number_offset = omega (arith, o.number_fits)

  pub symbol_low : get_or ws j 0 % E.sizes.symbols < E.sizes.symbols
  symbol_low = rw symbol_said o.symbol_below

-- where another note, and another work cell, is set
pub note_set :
    {E : Environment} {ns ws : List ℕ} {j : ℕ} (k v : ℕ) → (get_or ws j 0 ≡ k → ⊥) → OpenAt E ns ws j → OpenAt E (set ns k v) ws j
note_set {E} {ns} {ws} {j} k v other o =
    record {
      config = o.config;
      pushed = o.pushed;
      head_below = o.head_below;
      symbol_below = o.symbol_below;
      number_is = o.number_is;
      note_is = get_or-set_other ns k (get_or ws j 0) v 0 other ∙ o.note_is;
      work_there = o.work_there;
      note_there = omega (arith, o.note_there, length-set ns k v);
      number_fits = o.number_fits;
    }

pub work_set :
    {E : Environment} {ns ws : List ℕ} {j : ℕ} (i v : ℕ) → (j ≡ i → ⊥) → OpenAt E ns ws j → OpenAt E ns (set ws i v) j
work_set {E} {ns} {ws} {j} i v other o =
    let same : get_or (set ws i v) j 0 ≡ get_or ws j 0 = get_or-set_other ws i j v 0 other in
    record {
      config = o.config;
      pushed = o.pushed;
      head_below = o.head_below;
      symbol_below = o.symbol_below;
      number_is = same ∙ o.number_is;
      note_is = ap (λ (k : ℕ). get_or ns k 0) same ∙ o.note_is;
      work_there = omega (arith, o.work_there, length-set ws i v);
      note_there = omega (arith, o.note_there, same);
      number_fits = omega (arith, o.number_fits, same);
    }

-- A POP'S RESUMPTION, where a configuration is open
module _ {E : Environment} {d : Config} {k row p i t : ℕ} {ns ws : List ℕ} (y : PopReady E d k row p i t ns ws) (some : t ≡ 0 → ⊥) where
  pub newest_open : OpenAt E ns ws (t - 1)
  newest_open = y.newest (omega arith)

  module _ {a : ℕ} (e : a ≡ symbol_told (get_or ns (get_or ws (t - 1) 0) 0)) where
    resumed_symbol : a ≡ get_or ws (t - 1) 0 % E.sizes.symbols
    resumed_symbol = symbol_is newest_open y.terminator.constants e

    by_rows : p * E.stride + row + a ≡ number_in E (config p i (get_or ws (t - 1) 0 % E.sizes.symbols))
    by_rows = rw resumed_symbol (by_row y.terminator.constants p i (get_or ws (t - 1) 0 % E.sizes.symbols) y.row_is)

    pub resumed_fits : p * E.stride + row + a < u32_end
    resumed_fits =
        let b : ConfigBelow E (config p i (get_or ws (t - 1) 0 % E.sizes.symbols)) =
        record { state_low = y.state_low; head_below = y.head_below; symbol_below = symbol_low newest_open } in
        omega (arith, by_rows, number_few y.terminator.constants b)

    pub resumed_is :
        {x : Registers} {j n : ℕ} → x ≡ registers_with Look (config p i a) j false t n → j ≡ p * E.stride + row + a → x ≡ after_pop E d p i t n ws
    resumed_is f g = rw (ne_eqb t 0 some, f, g ∙ by_rows, resumed_symbol) refl
