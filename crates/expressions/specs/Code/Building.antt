-- The rules made while an expression is read, on the code's own structs. Assumes nothing: these are definitions.
use Rattle.std.specs.Prelude.{List, [], ◌∷◌, ℕ, suc, ◌+◌, ◌-◌, ◌*◌, length, set}
use Rattle.codec.specs.Bytes.{byte}
use Rattle.grammar.specs.declared.Expression.{Expression}
use Rattle.syntax.specs.Compile.{rule_bytes}
use Rattle.expressions.specs.declared.Rules.{Rules}

-- a rule's four bytes stored at its number
unfoldable pub rule_put : (bytes : List ℕ) → (n : ℕ) → Expression → List ℕ
rule_put bs n x =
    let four = rule_bytes x in
    set (set (set (set bs (4 * n) (byte four 0)) (4 * n + 1) (byte four 1)) (4 * n + 2) (byte four 2)) (4 * n + 3) (byte four 3)

-- rules put at the numbers from n on
unfoldable pub put_rules : (bytes : List ℕ) → (n : ℕ) → List Expression → List ℕ
put_rules bs n [] = bs
put_rules bs n (x ∷ xs) = put_rules (rule_put bs n x) (suc n) xs

-- the rules with these helpers more, and so many taken from those that are left
unfoldable pub advanced : Rules → List Expression → (taken : ℕ) → Rules
advanced r xs k = record { bytes = put_rules r.bytes r.next xs; next = r.next + length xs; left = r.left - k }

-- the rules with one put at a number
abbrev pub placed_at : Rules → (k : ℕ) → Expression → Rules
placed_at r k x = record { bytes = rule_put r.bytes k x; next = r.next; left = r.left }
