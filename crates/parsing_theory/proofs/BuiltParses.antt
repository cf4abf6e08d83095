-- The machine of a grammar's image, by either choice of a match, parses, enters few configurations, and pops a range that matches nothing at once. Assumes nothing.
use mathlib.Core.Path.{◌≡◌}
use mathlib.Core.Bool.{false}
use mathlib.Core.List.{List}
use Prim.Native.Nat.{ℕ, suc, ◌+◌, ◌*◌, ◌<◌, ◌≤◌}
use native.Mathlib.Omega.{arith}
use lib.ListN.{length}
use Rattle.machine.specs.declared.Action.TheVariants.{Pop}
use Rattle.machine.specs.Run.{config, how_many}
use Rattle.codec.specs.Bytes.{byte}
use Rattle.image.specs.Image.{machine}
use Rattle.machine.specs.Verdicts.{Noted, nonzero}
use Rattle.grammar.specs.Grammar.{Inverted, rules, b_of, c_of, expression, grammar_refusal}
use Rattle.grammar.proofs.Inverted.{inverted_is, matches_nowhere}
use Rattle.builder.specs.declared.Matching.{Matching}
use Rattle.builder.specs.declared.Matching.TheVariants.{Whole, Leading}
use Rattle.builder.specs.Table.{state_work, state_fail, first}
use Rattle.builder.specs.Image.{built}
use Rattle.parsing_theory.proofs.BuiltTable.{table, choice}
use Rattle.parsing_theory.proofs.TableRows.{range_work_fails}
use Rattle.parsing_theory.proofs.Parsed.{ParsesRight, parses_right}
use Rattle.parsing_theory.proofs.FewReadings.{few_readings_of}

pub built_parses :
    (how : Matching) (gs cs : List ℕ) → (grammar_refusal gs).number ≡ 0 → ((i : ℕ) → byte cs i < 256) →
    ParsesRight how (machine (built how gs) cs) (expression gs) cs
built_parses how gs cs good bytes = parses_right (table how gs cs good bytes) (choice how gs cs good bytes)

-- FEW READINGS, of a whole match and of a leading one
pub few_readings :
    (gs cs notes : List ℕ) → (grammar_refusal gs).number ≡ 0 → ((i : ℕ) → byte cs i < 256) → Noted (machine (built Whole gs) cs) notes →
    nonzero (how_many (machine (built Whole gs) cs)) notes ≤ 6 * rules gs * (length cs + 1) + 2
few_readings gs cs notes good bytes noted = few_readings_of (table Whole gs cs good bytes) (choice Whole gs cs good bytes) notes noted

pub few_readings_leading :
    (gs cs notes : List ℕ) → (grammar_refusal gs).number ≡ 0 → ((i : ℕ) → byte cs i < 256) → Noted (machine (built Leading gs) cs) notes →
    nonzero (how_many (machine (built Leading gs) cs)) notes ≤ 6 * rules gs * (length cs + 1) + length cs + 2
few_readings_leading gs cs notes good bytes noted =
    omega (arith, few_readings_of (table Leading gs cs good bytes) (choice Leading gs cs good bytes) notes noted)

pub inverted_pops :
    (how : Matching) (gs cs : List ℕ) (k i : ℕ) → (grammar_refusal gs).number ≡ 0 → ((j : ℕ) → byte cs j < 256) → k < rules gs → Inverted gs k →
    i ≤ length cs → (machine (built how gs) cs).action (config state_work (suc i) (first k)) ≡ Pop state_fail false
inverted_pops how gs cs k i good bytes below x here =
    range_work_fails (table how gs cs good bytes) below here (inverted_is gs k x) (matches_nowhere cs (b_of gs k) (c_of gs k) i x.low_above)
