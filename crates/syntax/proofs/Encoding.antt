-- Rules as bytes: four each, and what is encoded in two parts. Assumes nothing.
use mathlib.Core.Path.{◌≡◌, refl, ap, sym, ◌∙◌}
use mathlib.Core.List.{List, [], ◌∷◌, ◌++◌, append_assoc}
use Prim.Native.Nat.{ℕ, ◌*◌}
use native.Mathlib.Omega.{arith}
use lib.ListN.{length, length-append}
use Rattle.grammar.specs.declared.Expression.{Expression}
use Rattle.grammar.specs.declared.Expression.TheVariants.{Sequence, Choice, Not, Empty, Range}
use Rattle.syntax.specs.Compile.{rule_bytes, encode}

pub four_bytes : (x : Expression) → length (rule_bytes x) ≡ 4
unfolding rule_bytes
four_bytes (Sequence b c) = refl
four_bytes (Choice b c) = refl
four_bytes (Not b) = refl
four_bytes Empty = refl
four_bytes (Range b c) = refl

pub length_encode : (xs : List Expression) → length (encode xs) ≡ 4 * length xs
unfolding encode
length_encode [] = refl
length_encode (x ∷ xs) = length-append (rule_bytes x) (encode xs) ∙ omega (arith, four_bytes x, length_encode xs)

pub encode_append : (xs ys : List Expression) → encode (xs ++ ys) ≡ encode xs ++ encode ys
unfolding encode
encode_append [] ys = refl
encode_append (x ∷ xs) ys = ap (λ (bs : List ℕ). rule_bytes x ++ bs) (encode_append xs ys) ∙ sym (append_assoc (rule_bytes x) (encode xs) (encode ys))

pub encode_one : (x : Expression) → encode (x ∷ []) ≡ rule_bytes x
unfolding encode rule_bytes
encode_one (Sequence b c) = refl
encode_one (Choice b c) = refl
encode_one (Not b) = refl
encode_one Empty = refl
encode_one (Range b c) = refl
