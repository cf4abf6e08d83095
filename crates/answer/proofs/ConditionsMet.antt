-- What the input's refusal means: each input has just one row of the paper's table, and the check's answer is that row's. So no refusal is given just if all conditions hold, and a refused place is that of the first wrong pair. Assumes nothing.
use mathlib.Core.Path.{◌≡◌, refl, sym, ◌∙◌}
use mathlib.Core.Bool.{◌||◌}
use mathlib.Core.List.{List, ◌++◌}
use mathlib.Core.Logic.{◌↔◌}
use Prim.Native.Nat.{ℕ}
use native.Mathlib.Omega.{arith}
use lib.Dec.{ltb}
use lib.ListN.{length, take, drop, length-take, length-drop, take-append-drop}
use lib.Seq.{drop-drop}
use Rattle.codec.specs.Numbers.{pair_at}
use Rattle.refusal.specs.First.{refusal, no_refusal}
use Rattle.answer.specs.Input.{pairs_length, grammar_pair, capture_pair, max_input, capture_offset, first_pair_right, second_pair_right, input_refusal, input_grammar, input_capture}
use Rattle.answer.specs.Conditions.{InputLengthRight, InputRight, InputParts, FirstPairRight, SecondPairRight, InputRow, unrefused_input, wrong_input_length, wrong_first_pair, wrong_second_pair}
use Rattle.refusal.proofs.Reflects.{Reflects, when_holds, when_fails, decided, restated, equal, at_most, both, Refuses, when_refused, passing, refuses_as, over, any_of}
use Rattle.refusal.proofs.Rows.{SomeRow, Table, row_numbered, exactly}
use Rattle.answer.proofs.InputLaws.{first_refused, second_refused, not_refused}

module _ (xs : List ℕ) where
  length_test : Refuses (InputLengthRight xs) (ltb (length xs) pairs_length || ltb max_input (length xs))
  length_test =
      refuses_as (λ p. record { least = p.0; most = p.1 }) (λ r. (r.least, r.most))
      (any_of (over (length xs) pairs_length) (over max_input (length xs)))

  first_test : Reflects (FirstPairRight xs) (first_pair_right xs)
  unfolding first_pair_right capture_offset
  first_test =
      restated (λ p. record { offset_is = p.0; within = p.1 }) (λ r. (r.offset_is, r.within))
      (both (equal _ _) (at_most _ _))

  second_test : Reflects (SecondPairRight xs) (second_pair_right xs)
  unfolding second_pair_right capture_offset
  second_test =
      restated (λ p. record { offset_is = p.0; nothing_after = sym p.1 }) (λ r. (r.offset_is, sym r.nothing_after))
      (both (equal _ _) (equal _ _))

  -- the two pairs with their lengths written out, both ways
  from_pairs : InputLengthRight xs → FirstPairRight xs → SecondPairRight xs → InputRight xs
  from_pairs l f s =
      record {
        long = l;
        grammar_length = (pair_at xs grammar_pair).long;
        capture_length = (pair_at xs capture_pair).long;
        first_pair = record { offset_is = f.offset_is; length_is = refl };
        second_pair = record { offset_is = s.offset_is; length_is = refl };
        nothing_after = s.nothing_after;
      }

  to_first : InputRight xs → FirstPairRight xs
  to_first r =
      record {
        offset_is = r.first_pair.offset_is;
        within = omega (arith, r.first_pair.length_is, r.nothing_after);
      }

  to_second : InputRight xs → SecondPairRight xs
  to_second r =
      record {
        offset_is = omega (arith, r.second_pair.offset_is, r.first_pair.length_is);
        nothing_after = omega (arith, r.first_pair.length_is, r.second_pair.length_is, r.nothing_after);
      }

  -- EACH INPUT HAS A ROW
  some_row : SomeRow (InputRow xs)
  some_row = go (passing length_test) (decided first_test) (decided second_test)
    where
      go : Dec (InputLengthRight xs) → Dec (FirstPairRight xs) → Dec (SecondPairRight xs) → SomeRow (InputRow xs)
      go (no n) f s = (14, 0, wrong_input_length n)
      go (yes l) (no n) s = (14, grammar_pair, wrong_first_pair l n)
      go (yes l) (yes f) (no n) = (14, capture_pair, wrong_second_pair l f n)
      go (yes l) (yes f) (yes s) = (0, 0, unrefused_input (from_pairs l f s))

  -- AND ITS ROW IS THE CHECK'S ANSWER
  row_answers : (n o : ℕ) → InputRow xs n o → input_refusal xs ≡ refusal n o
  unfolding input_refusal
  row_answers n o (unrefused_input r) =
      not_refused xs r.long.least r.long.most (when_holds first_test (to_first r)) (when_holds second_test (to_second r))
  row_answers n o (wrong_input_length w) = simp (when_refused length_test w)
  row_answers n o (wrong_first_pair l w) = first_refused xs l.least l.most (when_fails first_test w)
  row_answers n o (wrong_second_pair l f w) =
      second_refused xs l.least l.most (when_holds first_test f) (when_fails second_test w)

  pub input_table : Table (input_refusal xs) (InputRow xs)
  input_table = record { row = some_row; answers = row_answers }

  -- A NUMBER AND A PLACE ARE THE CHECK'S ANSWER EXACTLY IF THE INPUT HAS THEIR ROW
  pub input_answer : (n o : ℕ) → (input_refusal xs ≡ refusal n o) ↔ InputRow xs n o
  input_answer = exactly input_table

  -- 0: no refusal is given exactly if all conditions hold
  pub input_right : (input_refusal xs).number ≡ 0 → InputRight xs
  input_right e = go (row_numbered input_table e)
    where
      go : {o : ℕ} → InputRow xs 0 o → InputRight xs
      go (unrefused_input r) = r

  pub input_accepted : InputRight xs → input_refusal xs ≡ no_refusal
  input_accepted r = row_answers 0 0 (unrefused_input r)

  -- THE PARTS of an input that is not refused
  capture_is : input_capture xs ≡ drop (pair_at xs grammar_pair).long (drop pairs_length xs)
  unfolding input_capture capture_offset
  capture_is = sym (drop-drop (pair_at xs grammar_pair).long pairs_length xs)

  parts_whole : take pairs_length xs ++ (input_grammar xs ++ input_capture xs) ≡ xs
  unfolding input_grammar
  parts_whole = rw (capture_is, take-append-drop (pair_at xs grammar_pair).long (drop pairs_length xs)) (take-append-drop pairs_length xs)

  grammar_long : FirstPairRight xs → length (input_grammar xs) ≡ (pair_at xs grammar_pair).long
  unfolding input_grammar
  grammar_long f = simp (length-take, length-drop) (omega (arith, f.within))

  capture_long : SecondPairRight xs → length (input_capture xs) ≡ (pair_at xs capture_pair).long
  unfolding input_capture capture_offset
  capture_long s = simp length-drop (omega (arith, s.nothing_after))

  pub input_parts : (r : InputRight xs) → InputParts xs r.grammar_length r.capture_length
  input_parts r =
      record {
        whole = parts_whole;
        grammar_long = grammar_long (to_first r) ∙ r.first_pair.length_is;
        capture_long = capture_long (to_second r) ∙ r.second_pair.length_is;
      }
