-- What the step's code needs, of an image and a capture that are not refused and of registers that are ready. Assumes nothing.
use mathlib.Core.Path.{◌≡◌, refl, sym, ◌∙◌}
use mathlib.Core.Bool.{Bool}
use mathlib.Core.List.{List}
use Prim.Native.Nat.{ℕ, suc, ◌+◌, ◌*◌, ◌<◌, ◌≤◌}
use native.Mathlib.Nat.{mul-le-mul}
use native.Mathlib.Omega.{arith}
use lib.ListN.{length, get_or, set}
use Rattle.machine.specs.declared.Config.{Config}
use Rattle.machine.specs.declared.Action.{Action}
use Rattle.machine.specs.declared.Action.TheVariants.{Pop}
use Rattle.machine.specs.declared.Note.TheVariants.{Closed}
use Rattle.machine.specs.Run.{ValidConfig, number_by, number, how_many, config_by}
use Rattle.machine.specs.Verdicts.{nonzero}
use Rattle.image.specs.Image.{states, action, machine, sizes_of}
use Rattle.image.specs.Refusals.{Unrefused}
use Rattle.image.specs.Format
use Rattle.image.specs.Code.Lookup.{LookupReady}
use Rattle.machine.proofs.Digits.{number_of_digits}
use Rattle.machine.proofs.Nonzero.{nonzero_set_new, nonzero_most}
use Rattle.machine.proofs.Numbers.{number_below, config_at, config_at_there}
use Rattle.image.proofs.Rules.{good, state_there, head_there, symbol_there}
use Rattle.image.proofs.Inside.{inside, change_near, push_near}
use Rattle.chain.specs.declared.Environment.{Environment}
use Rattle.chain.specs.declared.Registers.{Registers}
use Rattle.chain.specs.Cells.{cell_note}
use Rattle.chain.specs.Step.{number_in, config_in}
use Rattle.chain.specs.Chain.{environment_of}
use Rattle.chain.specs.Code.Ready.{Ready}
use Rattle.chain.specs.Code.NumberParts.{u32_end, Constants, ConfigBelow, Numbered, Leads, Apart}
use Rattle.chain.specs.Code.StepParts.{Resumable, FirstReady, Closable}

-- N is at most 32 · 65537 · 128
pub few_cells :
    {bs cs : List ℕ} → Unrefused bs cs → how_many (machine bs cs) ≤ Format.max_states * Format.max_places * Format.max_symbols
unfolding how_many machine
few_cells {bs} {cs} u =
    let g = good u in
    let p : length cs + 2 ≤ Format.max_places = omega (arith, u.short) in
    mul-le-mul (mul-le-mul g.states_most p) g.symbols_most

pub few_places : {bs cs : List ℕ} → Unrefused bs cs → states bs * (length cs + 2) ≤ Format.max_states * Format.max_places
few_places {bs} {cs} u =
    let p : length cs + 2 ≤ Format.max_places = omega (arith, u.short) in
    mul-le-mul (good u).states_most p

-- AN ENVIRONMENT by an image and a capture that are not refused
module _ {bs cs : List ℕ} (u : Unrefused bs cs) {E : Environment} (q : E ≡ environment_of bs cs) where
  pub sizes_kept : E.sizes ≡ sizes_of bs cs
  sizes_kept = rw q refl

  pub constants_kept : Constants E
  unfolding sizes_of
  constants_kept =
      rw
      q
      (record {
        stride_is = refl;
        reciprocals_are = refl;
        symbols_some = (good u).symbols_least;
        symbols_most = (good u).symbols_most;
        places_some = omega arith;
        places_most = omega (arith, u.short);
      })

  pub config_low : {c : Config} → ValidConfig (machine bs cs) c → ConfigBelow E c
  unfolding sizes_of
  config_low t =
      rw
      q
      (record {
        state_low = omega (arith, state_there u t, (good u).states_most);
        head_below = head_there u t;
        symbol_below = symbol_there u t;
      })

  pub number_low : {c : Config} → ValidConfig (machine bs cs) c → number_in E c < how_many (machine bs cs)
  unfolding sizes_of number machine
  number_low t = rw q (number_below t)

  from_there : (k : ℕ) → k < how_many (machine bs cs) → ValidConfig (machine bs cs) (config_in E k)
  unfolding sizes_of config_at machine
  from_there k h = rw q (config_at_there (machine bs cs) k h)

  -- a pop names a state of the image
  pub pop_low : {d : Config} → ValidConfig (machine bs cs) d → {a : Action} → a ≡ action bs cs d → (p : ℕ) (b : Bool) → a ≡ Pop p b → p < Format.max_states
  unfolding machine
  pop_low {d} t f p b e =
      let h : p < (machine bs cs).states = (inside bs cs u).pops d p b t (sym f ∙ e) in
      omega (arith, h, (good u).states_most)

  -- a number below N can be taken apart, and its configuration has it
  pub apart_low : {k : ℕ} → k < how_many (machine bs cs) → Apart E k
  unfolding how_many machine sizes_of
  apart_low {k} h =
      let f : how_many (machine bs cs) ≤ Format.max_states * E.sizes.places * E.sizes.symbols =
      rw q (mul-le-mul (mul-le-mul {m₁ = length cs + 2} (good u).states_most (omega arith)) (omega arith)) in
      record { constants = constants_kept; below = omega arith }

  pub numbered_from : {k : ℕ} → k < how_many (machine bs cs) → {d : Config} → d ≡ config_in E k → Numbered E d k
  unfolding number_by config_by
  numbered_from {k} h f =
      rw f
      (record {
        constants = constants_kept;
        below = config_low (from_there k h);
        is = sym (number_of_digits E.sizes.places E.sizes.symbols k);
      })

  pub lookup_from : {k : ℕ} → k < how_many (machine bs cs) → {d : Config} → d ≡ config_in E k → LookupReady bs cs E.sizes d
  lookup_from {k} h f = record { unrefused = u; counts = sizes_kept; there = rw f (from_there k h) }

-- READY REGISTERS
module _ {bs cs : List ℕ} {E : Environment} {r : Registers} {ns ws : List ℕ} (y : Ready bs cs E r ns ws) where
  u : Unrefused bs cs
  u = y.unrefused

  pub at_numbered : Numbered E r.at r.number
  at_numbered =
      record { constants = constants_kept u y.environment_is; below = config_low u y.environment_is y.there; is = y.number_is }

  pub at_lookup : LookupReady bs cs E.sizes r.at
  at_lookup = record { unrefused = u; counts = sizes_kept u y.environment_is; there = y.there }

  pub number_there : r.number < how_many (machine bs cs)
  number_there = omega (arith, y.number_is, number_low u y.environment_is y.there)

  pub note_there : r.number < length ns
  note_there = omega (arith, number_there, y.notes_long)

  pub number_room : r.number + 2 < u32_end
  number_room = omega (arith, number_there, few_cells u)

  -- with an unseen note fewer than N are read, and no more are open
  readings_few : get_or ns r.number 0 ≡ 0 → r.readings < how_many (machine bs cs)
  readings_few e =
      let more : nonzero (how_many (machine bs cs)) (set ns r.number 1) ≡ suc (nonzero (how_many (machine bs cs)) ns) =
      nonzero_set_new (how_many (machine bs cs)) ns r.number 1 number_there note_there e (λ z. omega arith) in
      omega (arith, y.counted, nonzero_most (how_many (machine bs cs)) (set ns r.number 1))

  pub first_ready : get_or ns r.number 0 ≡ 0 → {a : Action} → a ≡ action bs cs r.at → FirstReady E r a ns ws
  unfolding machine
  first_ready e {a} f =
      record {
        openable =
            record {
              head_low = omega (arith, at_numbered.below.head_below, at_numbered.constants.places_most);
              symbol_low = omega (arith, at_numbered.below.symbol_below, at_numbered.constants.symbols_most);
              note_there = note_there;
              work_there = omega (arith, y.depth_low, readings_few e, y.work_long);
              depth_room = omega (arith, y.depth_low, readings_few e, few_cells u);
              readings_room = omega (arith, readings_few e, few_cells u);
            };
        changes = λ c g. leads_to c ((inside bs cs u).changes r.at c y.there (sym f ∙ g)) (change_near bs cs r.at c (sym g ∙ f));
        pushes = λ c g. leads_to c ((inside bs cs u).pushes r.at c y.there (sym f ∙ g)) (push_near bs cs r.at c (sym g ∙ f));
        pops =
            λ p b g. record {
              own = at_numbered;
              state_low = pop_low u y.environment_is y.there f p b g;
              newest = y.newest;
              unseen = e;
              number_room = number_room;
              readings_room = omega (arith, readings_few e, few_cells u);
              note_there = note_there;
            };
        own = at_numbered;
      }
    where
      leads_to : (c : Config) → ValidConfig (machine bs cs) c → c.head ≤ r.at.head + 1 → Leads E r.at c
      leads_to c t near = record { below = config_low u y.environment_is t; right_most = near }

  -- a closed note leads to a configuration d, whose rule can be read and resumed from
  module _ (k : ℕ) {j : ℕ} (e : cell_note (get_or ns k 0) ≡ Closed j) where
    pub apart : Apart E j
    apart = apart_low u y.environment_is (y.notes_low k j e)

    pub closable : {d : Config} → d ≡ config_in E j → Closable bs cs E r d j ns ws
    closable f =
        record {
          environment_is = y.environment_is;
          lookup = lookup_from u y.environment_is (y.notes_low k j e) f;
          terminator = numbered_from u y.environment_is (y.notes_low k j e) f;
          pointer_below = at_numbered.below.head_below;
          newest = y.newest;
        }

-- a terminator that is known can be resumed from
pub closed_resumes :
    {bs cs : List ℕ} {E : Environment} {r : Registers} {d : Config} {k : ℕ} {ns ws : List ℕ} → Closable bs cs E r d k ns ws →
    {a : Action} → a ≡ action bs cs d → Resumable E d k a r.at.head r.depth ns ws
closed_resumes y f =
    record {
      terminator = y.terminator;
      state_low = pop_low y.lookup.unrefused y.environment_is y.lookup.there f;
      pointer_below = y.pointer_below;
      newest = y.newest;
    }
