-- The longest image that is built has 82,188 bytes: 31 rules make 63 symbols, and at most 63 classes. Assumes nothing.
use mathlib.Core.Path.{◌≡◌, refl, ◌∙◌}
use mathlib.Core.List.{List, [], ◌∷◌}
use Prim.Native.Nat.{ℕ, zero, suc, ◌+◌, ◌≤◌}
use native.Mathlib.Omega.{arith}
use lib.ListN.{length}
use Rattle.grammar.specs.Grammar.{max_rules, rules, kind_of, b_of, c_of, kind_range, expression_by, expression, range_of, rule_right, grammar_rules_from, grammar_refusal}
use Rattle.builder.specs.declared.Matching.{Matching}
use Rattle.builder.specs.Classes.{cuts_at, cut_from, cut, class_of, class_count}
use Rattle.builder.specs.Image.{symbols_of, built_rules, built, built_length}
use Rattle.builder.proofs.BuiltImage.{built_length_is}
use Rattle.builder.proofs.CodeClasses.{count_most}

pub longest_image : (how : Matching) (gs : List ℕ) → (grammar_refusal gs).number ≡ 0 → length (built how gs) ≤ 82188
unfolding built_length
longest_image how gs good = omega (arith, built_length_is how gs, count_most gs good)

-- so many rules, each a range of one byte: b, b + 2, b + 4, .. They cut at b, b + 1, b + 2, b + 3, ..
single_bytes : (count b : ℕ) → List ℕ
single_bytes zero b = []
single_bytes (suc n) b = kind_range ∷ b ∷ b ∷ 0 ∷ single_bytes n (b + 2)

-- 31 rules that cut at 1 to 62: refused by nothing, and as long as can be
longest : List ℕ
longest = single_bytes max_rules 1

longest_good : (grammar_refusal longest).number ≡ 0
unfolding longest single_bytes grammar_refusal rules kind_of b_of c_of rule_right grammar_rules_from
longest_good = refl

longest_length : built_length longest ≡ 82188
unfolding longest single_bytes rules kind_of b_of c_of expression_by expression range_of cuts_at cut_from cut class_of class_count symbols_of built_rules built_length
longest_length = refl

pub longest_there : (gs : List ℕ) × ((grammar_refusal gs).number ≡ 0) × ((how : Matching) → length (built how gs) ≡ 82188)
longest_there = (longest, longest_good, λ how. built_length_is how longest ∙ longest_length)
