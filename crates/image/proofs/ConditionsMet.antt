-- What the image's refusals mean: each image has just one row of the paper's table, and the check's answer is that row's. So no refusal is given just if all conditions hold, and a refused place is the first that is wrong. Assumes nothing.
use mathlib.Core.Path.{◌≡◌, sym, ◌∙◌}
use mathlib.Core.List.{List}
use mathlib.Core.Logic.{◌↔◌}
use Prim.Native.Nat.{ℕ, ◌+◌, ◌*◌, ◌<◌, ◌≤◌}
use native.Mathlib.Decide.{dec_lt}
use native.Mathlib.Omega.{arith}
use lib.Dec.{eqb}
use lib.ListN.{length}
use borrow.Author.Tests.{lt-ltb, le-ltb}
use Rattle.image.specs.Format
use Rattle.image.specs.Image.{states, classes, symbols}
use Rattle.refusal.specs.First.{refusal, or_else}
use Rattle.image.specs.Refusals.{rule_count, image_refusal}
use Rattle.image.specs.Conditions.{DirectoryRight, CountsRight, LengthRight, MapRight, RulesRight, ImageRight, FirstWrongPair, FirstWrongCount, FirstWrongClass, FirstBadRule, ImageRow, unrefused, short_image, wrong_pair, wrong_count, wrong_length, wrong_class, bad_rule}
use Rattle.refusal.proofs.Reflects.{Reflects, when_holds, when_fails, decided, restated, equal}
use Rattle.refusal.proofs.Rows.{SomeRow, Table, exactly, Check, checks}
use Rattle.image.proofs.ImageParts.{Part, part_right, part_wrong, directory_part, directory_fine, directory_wrong, counts_part, counts_fine, counts_wrong, map_part, map_fine, map_wrong, rules_part, rules_fine, rules_wrong}

module _ (bs : List ℕ) where
  length_test : Reflects (LengthRight bs) (eqb (length bs) (Format.rules_offset + Format.rule_length * rule_count bs))
  unfolding rule_count
  length_test = restated (λ e. e ∙ same) (λ e. e ∙ sym same) (equal _ _)
    where
      same : Format.rules_offset + Format.rule_length * rule_count bs ≡ Format.rules_offset + Format.rule_length * states bs * (classes bs + 2) * symbols bs
      same = omega arith

  -- EACH IMAGE HAS A ROW
  some_row : SomeRow (ImageRow bs)
  some_row = by_header (dec_lt (length bs) Format.map_offset)
    where
      by_rules :
          Format.map_offset ≤ length bs → DirectoryRight bs → CountsRight bs → LengthRight bs → MapRight bs →
          Part (RulesRight bs) (FirstBadRule bs) → SomeRow (ImageRow bs)
      by_rules h d c l m (part_right r) =
          (0, 0, unrefused (record { header = h; directory = d; counts = c; long = l; map = m; rules = r }))
      by_rules h d c l m (part_wrong o f) = (6, o, bad_rule d c l m f)

      by_map :
          Format.map_offset ≤ length bs → DirectoryRight bs → CountsRight bs → LengthRight bs →
          Part (MapRight bs) (FirstWrongClass bs) → SomeRow (ImageRow bs)
      by_map h d c l (part_right m) = by_rules h d c l m (rules_part bs)
      by_map h d c l (part_wrong o f) = (5, o, wrong_class d c l f)

      by_length : Format.map_offset ≤ length bs → DirectoryRight bs → CountsRight bs → Dec (LengthRight bs) → SomeRow (ImageRow bs)
      by_length h d c (yes l) = by_map h d c l (map_part bs)
      by_length h d c (no n) = (4, Format.rules_size, wrong_length d c n)

      by_counts : Format.map_offset ≤ length bs → DirectoryRight bs → Part (CountsRight bs) (FirstWrongCount bs) → SomeRow (ImageRow bs)
      by_counts h d (part_right c) = by_length h d c (decided length_test)
      by_counts h d (part_wrong o f) = (3, o, wrong_count d f)

      by_directory : Format.map_offset ≤ length bs → Part (DirectoryRight bs) (FirstWrongPair bs) → SomeRow (ImageRow bs)
      by_directory h (part_right d) = by_counts h d (counts_part bs)
      by_directory h (part_wrong o f) = (2, o, wrong_pair h f)

      by_header : Dec (length bs < Format.map_offset) → SomeRow (ImageRow bs)
      by_header (yes h) = (1, length bs, short_image h)
      by_header (no n) = by_directory (omega arith) (directory_part bs)

  -- AND ITS ROW IS THE CHECK'S ANSWER
  header : DirectoryRight bs → Format.map_offset ≤ length bs
  header d = omega (arith, d.rules_pair.long_enough)

  row_answers : (n o : ℕ) → ImageRow bs n o → image_refusal bs ≡ refusal n o
  unfolding image_refusal or_else
  row_answers n o (unrefused r) =
      simp (
        le-ltb _ _ r.header,
        directory_fine bs r.directory,
        counts_fine bs r.counts,
        when_holds length_test r.long,
        map_fine bs r.map,
        rules_fine bs r.rules,
      )
  row_answers n o (short_image h) = simp (lt-ltb _ _ h)
  row_answers n o (wrong_pair h f) = simp (le-ltb _ _ h, directory_wrong bs o f)
  row_answers n o (wrong_count d f) = simp (le-ltb _ _ (header d), directory_fine bs d, counts_wrong bs o f)
  row_answers n o (wrong_length d c w) =
      simp (le-ltb _ _ (header d), directory_fine bs d, counts_fine bs c, when_fails length_test w)
  row_answers n o (wrong_class d c l f) =
      simp (le-ltb _ _ (header d), directory_fine bs d, counts_fine bs c, when_holds length_test l, map_wrong bs o f)
  row_answers n o (bad_rule d c l m f) =
      simp (
        le-ltb _ _ (header d),
        directory_fine bs d,
        counts_fine bs c,
        when_holds length_test l,
        map_fine bs m,
        rules_wrong bs o f,
      )

  image_table : Table (image_refusal bs) (ImageRow bs)
  image_table = record { row = some_row; answers = row_answers }

  -- A NUMBER AND A PLACE ARE THE CHECK'S ANSWER EXACTLY IF THE IMAGE HAS THEIR ROW
  pub image_answer : (n o : ℕ) → (image_refusal bs ≡ refusal n o) ↔ ImageRow bs n o
  image_answer = exactly image_table

  -- 0: no refusal is given exactly if all conditions hold
  pub image_check : Check (image_refusal bs) (ImageRight bs) (ImageRow bs)
  image_check = checks image_table right unrefused
    where
      right : (o : ℕ) → ImageRow bs 0 o → ImageRight bs
      right o (unrefused r) = r

  pub image_right : (image_refusal bs).number ≡ 0 → ImageRight bs
  image_right = image_check.right
