-- Building is refused exactly by the rows of the paper's table. Assumes nothing.
use mathlib.Core.Path.{◌≡◌, refl}
use mathlib.Core.List.{List}
use mathlib.Core.Logic.{◌↔◌}
use Prim.Native.Nat.{ℕ, ◌<◌}
use native.Mathlib.Decide.{dec_lt}
use native.Mathlib.Omega.{arith}
use lib.ListN.{length}
use borrow.Author.Tests.{lt-ltb, le-ltb}
use Rattle.refusal.specs.First.{refusal, refuse_if}
use Rattle.refusal.proofs.Rows.{SomeRow, exactly, Check, checks, stops, goes_on, then_row}
use Rattle.builder.specs.declared.Matching.{Matching}
use Rattle.builder.specs.Image.{built, built_length}
use Rattle.builder.specs.Calls.{build_refusal}
use Rattle.grammar.specs.Conditions.{GrammarRight}
use Rattle.builder.specs.Conditions.{BuildingRight, BuildingRow, unrefused_building, refused_grammar, short_buffer}
use Rattle.builder.proofs.BuiltImage.{built_length_is}
use Rattle.grammar.proofs.ConditionsMet.{grammar_check}

module _ (how : Matching) (gs : List ℕ) (room : ℕ) where
  -- EACH CALL HAS A ROW
  some_row : SomeRow (BuildingRow how gs room)
  some_row = then_row (grammar_check gs) (λ n o r some. refused_grammar r some) (λ g. by_room g (dec_lt room (length (built how gs))))
    where
      by_room : GrammarRight gs → Dec (room < length (built how gs)) → SomeRow (BuildingRow how gs room)
      by_room g (yes h) = (13, length (built how gs), short_buffer g h)
      by_room g (no h) = (0, 0, unrefused_building (record { grammar = g; image_room = omega arith }))

  -- AND ITS ROW IS THE CALL'S ANSWER
  row_answers : (n o : ℕ) → BuildingRow how gs room n o → build_refusal gs room ≡ refusal n o
  unfolding build_refusal refuse_if
  row_answers n o (unrefused_building r) =
      goes_on (grammar_check gs) _ r.grammar (simp (le-ltb room (built_length gs) (omega (arith, r.image_room, built_length_is how gs))))
  row_answers n o (refused_grammar r some) = stops (grammar_check gs) _ r some
  row_answers n o (short_buffer g h) =
      goes_on (grammar_check gs) _ g (simp (lt-ltb room (built_length gs) (omega (arith, h, built_length_is how gs)), built_length_is how gs))

  pub building_check : Check (build_refusal gs room) (BuildingRight how gs room) (BuildingRow how gs room)
  building_check = checks (record { row = some_row; answers = row_answers }) right unrefused_building
    where
      right : (o : ℕ) → BuildingRow how gs room 0 o → BuildingRight how gs room
      right o (unrefused_building r) = r
      right o (refused_grammar r some) = absurd (some refl)

  pub building_answer : (n o : ℕ) → (build_refusal gs room ≡ refusal n o) ↔ BuildingRow how gs room n o
  building_answer = exactly building_check.table
