-- When a bundle is right, condition by condition as the request's prose has them; and the rows that the table of refusals gains. Assumes nothing: these are definitions.
use Rattle.std.specs.Prelude.{◌≡◌, List, ℕ, suc, ◌<◌, ◌≤◌, length}
use Rattle.image.specs.Conditions.{ImageRight, ImageRow}
use Rattle.bundle.specs.Format.{max_captures, count, pair_place, offset, end}

-- a count of 1 to 64, and room for as many pairs
pub record CountRight (xs : List ℕ) : Type 0 where
  pub some : 1 ≤ count xs
  pub few : count xs ≤ max_captures
  pub room : pair_place (count xs) ≤ length xs

-- a pair starts no earlier than the end of the one before, the first after the pairs; and ends inside the bundle
pub record PairRight (xs : List ℕ) (i : ℕ) : Type 0 where
  pub first : i ≡ 0 → pair_place (count xs) ≤ offset xs i
  pub follows : (j : ℕ) → i ≡ suc j → end xs j ≤ offset xs i
  pub inside : end xs i ≤ length xs

pub record FirstWrongPair (xs : List ℕ) (i : ℕ) : Type 0 where
  pub there : i < count xs
  pub wrong : PairRight xs i → ⊥
  pub earlier_right : (j : ℕ) → j < i → PairRight xs j

pub record BundleRight (xs : List ℕ) : Type 0 where
  pub counted : CountRight xs
  pub pairs : (i : ℕ) → i < count xs → PairRight xs i

-- THE TABLE'S ROWS, a constructor each: number and place; 0 at 0 says that a bundle is not refused
pub data BundleRow (xs : List ℕ) : (number place : ℕ) → Type 0 where
  unrefused_bundle : BundleRight xs → BundleRow xs 0 0
  wrong_count : (CountRight xs → ⊥) → BundleRow xs 18 0
  wrong_pair_at : {i : ℕ} → CountRight xs → FirstWrongPair xs i → BundleRow xs 18 (pair_place i)

-- THE CALL'S ROWS: a bad image refuses the whole call; after that a wrong bundle does
pub record CallRight (bs xs : List ℕ) : Type 0 where
  pub image : ImageRight bs
  pub bundle : BundleRight xs

pub data CallRow (bs xs : List ℕ) : (number place : ℕ) → Type 0 where
  unrefused_call : CallRight bs xs → CallRow bs xs 0 0
  bad_image : {number place : ℕ} → ImageRow bs number place → (number ≡ 0 → ⊥) → CallRow bs xs number place
  bad_bundle : {number place : ℕ} → ImageRight bs → BundleRow xs number place → (number ≡ 0 → ⊥) → CallRow bs xs number place
