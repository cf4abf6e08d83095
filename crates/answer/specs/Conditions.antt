-- When the program's input is right, condition by condition as the paper's prose has them, whatever the order in which a check tests them; and the rows that the paper's table of refusals has for an input. Assumes nothing: these are definitions.
use Rattle.std.specs.Prelude.{◌≡◌, List, ◌++◌, ℕ, ◌+◌, ◌≤◌, length, take}
use Rattle.codec.specs.Numbers.{pair_at}
use Rattle.image.specs.Conditions.{PairRight}
use Rattle.simulator.specs.Conditions.{JudgingRight, JudgingRow}
use Rattle.builder.specs.declared.Matching.TheVariants.{Whole}
use Rattle.builder.specs.Image.{built}
use Rattle.builder.specs.Conditions.{BuildingRight, BuildingRow}
use Rattle.answer.specs.Input.{pairs_length, grammar_pair, capture_pair, max_input, input_grammar, input_capture}
use Rattle.grammar_judge.specs.Calls.{Lent}

-- THE LENGTH: not under 16 and not over 65,536 bytes
pub record InputLengthRight (xs : List ℕ) : Type 0 where
  pub least : pairs_length ≤ length xs
  pub most : length xs ≤ max_input

-- THE INPUT: pairs (16, g) and (16 + g, n), the grammar of g bytes, the capture of n bytes, nothing after
pub record InputRight (xs : List ℕ) : Type 0 where
  pub long : InputLengthRight xs
  pub grammar_length : ℕ
  pub capture_length : ℕ
  pub first_pair : PairRight xs grammar_pair pairs_length grammar_length
  pub second_pair : PairRight xs capture_pair (pairs_length + grammar_length) capture_length
  pub nothing_after : length xs ≡ pairs_length + grammar_length + capture_length

-- the parts of such an input: after the pairs comes the grammar, then the capture, and nothing after
pub record InputParts (xs : List ℕ) (grammar_length capture_length : ℕ) : Type 0 where
  pub whole : take pairs_length xs ++ (input_grammar xs ++ input_capture xs) ≡ xs
  pub grammar_long : length (input_grammar xs) ≡ grammar_length
  pub capture_long : length (input_capture xs) ≡ capture_length

-- THE PAIRS by themselves: the first is wrong also where 16 + g passes the input's length,
pub record FirstPairRight (xs : List ℕ) : Type 0 where
  pub offset_is : (pair_at xs grammar_pair).offset ≡ pairs_length
  pub within : pairs_length + (pair_at xs grammar_pair).long ≤ length xs

-- and the second also where 16 + g + n is not the input's length
pub record SecondPairRight (xs : List ℕ) : Type 0 where
  pub offset_is : (pair_at xs capture_pair).offset ≡ pairs_length + (pair_at xs grammar_pair).long
  pub nothing_after : length xs ≡ pairs_length + (pair_at xs grammar_pair).long + (pair_at xs capture_pair).long

-- THE TABLE'S ROWS, a constructor each, by number and place; number 0 at place 0 is no refusal
pub data InputRow (xs : List ℕ) : (number place : ℕ) → Type 0 where
  unrefused_input : InputRight xs → InputRow xs 0 0
  wrong_input_length : (InputLengthRight xs → ⊥) → InputRow xs 14 0
  wrong_first_pair : InputLengthRight xs → (FirstPairRight xs → ⊥) → InputRow xs 14 grammar_pair
  wrong_second_pair : InputLengthRight xs → FirstPairRight xs → (SecondPairRight xs → ⊥) → InputRow xs 14 capture_pair

-- THE CALL, with lent buffers: 14 of its input, then 11 to 13 of its grammar, then 7 to 9 of its capture; the image is one that is built, and so is right
pub record AnsweringRight (xs : List ℕ) (x : Lent) : Type 0 where
  pub input : InputRight xs
  pub building : BuildingRight Whole (input_grammar xs) (length x.image)
  pub judging : JudgingRight (built Whole (input_grammar xs)) (input_capture xs) (length x.notes) (length x.work)

pub data AnsweringRow (xs : List ℕ) (x : Lent) : (number place : ℕ) → Type 0 where
  unrefused_answering : AnsweringRight xs x → AnsweringRow xs x 0 0
  refused_input : {number place : ℕ} → InputRow xs number place → (number ≡ 0 → ⊥) → AnsweringRow xs x number place
  refused_building :
      {number place : ℕ} → InputRight xs → BuildingRow Whole (input_grammar xs) (length x.image) number place → (number ≡ 0 → ⊥) →
      AnsweringRow xs x number place
  refused_judging :
      {number place : ℕ} → InputRight xs → BuildingRight Whole (input_grammar xs) (length x.image) →
      JudgingRow (built Whole (input_grammar xs)) (input_capture xs) (length x.notes) (length x.work) number place → (number ≡ 0 → ⊥) →
      AnsweringRow xs x number place
