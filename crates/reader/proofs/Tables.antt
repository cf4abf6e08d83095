-- The bytes of the rules while lines are read: the lines' own rules from number 0 on, the helper rules after all lines' numbers, and 0 everywhere else. Assumes nothing.
use mathlib.Core.Path.{◌≡◌, sym, ap, ◌∙◌}
use mathlib.Core.List.{List, [], ◌∷◌, ◌++◌, append_assoc, append-nil}
use Prim.Native.Nat.{ℕ, suc, ◌+◌, ◌-◌, ◌*◌, ◌<◌, ◌≤◌}
use native.Mathlib.Omega.{arith}
use lib.ListN.{length, take, drop, replicate, length-append, length-replicate, replicate-append-replicate}
use lib.Seq.{take_at, drop_at, take-append-add, drop-append-add, take-append-le, drop-append-le}
use Rattle.codec.specs.Bytes.{written}
use Rattle.codec.proofs.Writes.{four_stored}
use Rattle.grammar.specs.Grammar.{max_rules}
use Rattle.grammar.specs.declared.Expression.{Expression}
use Rattle.grammar.specs.declared.Expression.TheVariants.{Sequence, Choice, Not, Empty, Range}
use Rattle.syntax.specs.Compile.{rule_bytes, encode}
use Rattle.syntax.proofs.Encoding.{four_bytes, length_encode, encode_append, encode_one}
use Rattle.reader.specs.Calls.{padded}
use Rattle.expressions.specs.Code.Building.{rule_put, put_rules}

abbrev zeros : (count : ℕ) → List ℕ
zeros n = replicate n 0

zeros_length : (n : ℕ) → length (zeros n) ≡ n
zeros_length n = length-replicate {A = ℕ} n 0

zeros_append : (n m : ℕ) → zeros n ++ zeros m ≡ zeros (n + m)
zeros_append n m = replicate-append-replicate {A = ℕ} n m 0

-- rules, and room for so many more
abbrev filled : List Expression → (room : ℕ) → List ℕ
filled xs z = encode xs ++ zeros (4 * z)

unfoldable pub table : (lines : ℕ) → (named helpers : List Expression) → List ℕ
table n named hs = filled named (n - length named) ++ filled hs (max_rules - n - length hs)

filled_length : (xs : List Expression) (z : ℕ) → length (filled xs z) ≡ 4 * (length xs + z)
filled_length xs z = length-append (encode xs) (zeros (4 * z)) ∙ omega (arith, length_encode xs, zeros_length (4 * z))

-- one rule more where room begins
written_zeros : (xs : List Expression) (x : Expression) (z : ℕ) → written (filled xs (suc z)) (4 * length xs) (rule_bytes x) ≡ filled (xs ++ (x ∷ [])) z
unfolding written
written_zeros xs x z =
    let here : length (encode xs) ≡ 4 * length xs = length_encode xs in
    let split : zeros (4 * suc z) ≡ zeros 4 ++ zeros (4 * z) =
    ap (λ (n : ℕ). zeros n) (let sum : 4 * suc z ≡ 4 + 4 * z = omega arith in sum) ∙ sym (zeros_append 4 (4 * z))
    in
    let whole : filled xs (suc z) ≡ (encode xs ++ zeros 4) ++ zeros (4 * z) =
    ap (λ (bs : List ℕ). encode xs ++ bs) split ∙ sym (append_assoc (encode xs) (zeros 4) (zeros (4 * z)))
    in
    let front : take (4 * length xs) (filled xs (suc z)) ≡ encode xs = take_at (encode xs) (zeros (4 * suc z)) (4 * length xs) here in
    let long : length (encode xs ++ zeros 4) ≡ 4 * length xs + length (rule_bytes x) =
    length-append (encode xs) (zeros 4) ∙ omega (arith, here, four_bytes x, zeros_length 4)
    in
    let back : drop (4 * length xs + length (rule_bytes x)) (filled xs (suc z)) ≡ zeros (4 * z) =
    ap (drop (4 * length xs + length (rule_bytes x))) whole ∙ drop_at (encode xs ++ zeros 4) (zeros (4 * z)) _ long
    in
    ap (λ (bs : List ℕ). bs ++ rule_bytes x ++ drop (4 * length xs + length (rule_bytes x)) (filled xs (suc z))) front
    ∙ ap (λ (bs : List ℕ). encode xs ++ rule_bytes x ++ bs) back
    ∙ ap (λ (bs : List ℕ). encode xs ++ bs ++ zeros (4 * z)) (sym (encode_one x))
    ∙ ap (λ (bs : List ℕ). bs ++ zeros (4 * z)) (sym (encode_append xs (x ∷ [])))

-- in the left or the right of two parts
written_left : (a b : List ℕ) (i : ℕ) (part : List ℕ) → i + length part ≤ length a → written (a ++ b) i part ≡ written a i part ++ b
unfolding written
written_left a b i part h =
    let first : take i (a ++ b) ≡ take i a = take-append-le i a b (omega arith) in
    let last : drop (i + length part) (a ++ b) ≡ drop (i + length part) a ++ b = drop-append-le (i + length part) a b h in
    ap (λ (x : List ℕ). x ++ part ++ drop (i + length part) (a ++ b)) first ∙ ap (λ (x : List ℕ). take i a ++ part ++ x) last
    ∙ sym (append_assoc (take i a ++ part) (drop (i + length part) a) b)

take_right : (a b : List ℕ) (i : ℕ) → take (length a + i) (a ++ b) ≡ a ++ take i b
take_right a b i = take-append-add a b i

written_right : (a b : List ℕ) (i : ℕ) (part : List ℕ) → written (a ++ b) (length a + i) part ≡ a ++ written b i part
unfolding written
written_right a b i part =
    let sum : length a + i + length part ≡ length a + (i + length part) = omega arith in
    let last : drop (length a + i + length part) (a ++ b) ≡ drop (i + length part) b =
    ap (λ (n : ℕ). drop n (a ++ b)) sum ∙ drop-append-add a b (i + length part)
    in
    ap (λ (x : List ℕ). x ++ part ++ drop (length a + i + length part) (a ++ b)) (take_right a b i)
    ∙ ap (λ (x : List ℕ). (a ++ take i b) ++ part ++ x) last
    ∙ ap (λ (x : List ℕ). x ++ drop (i + length part) b) (append_assoc a (take i b) part)
    ∙ append_assoc a (take i b ++ part) (drop (i + length part) b)

-- a rule put where there is room for it is written there
put_written : (bs : List ℕ) (n : ℕ) (x : Expression) → 4 * n + 4 ≤ length bs → rule_put bs n x ≡ written bs (4 * n) (rule_bytes x)
unfolding rule_put rule_bytes
put_written bs n (Sequence b c) h = four_stored bs (4 * n) _ b c 0 h
put_written bs n (Choice b c) h = four_stored bs (4 * n) _ b c 0 h
put_written bs n (Not b) h = four_stored bs (4 * n) _ b 0 0 h
put_written bs n Empty h = four_stored bs (4 * n) _ 0 0 0 h
put_written bs n (Range b c) h = four_stored bs (4 * n) _ b c 0 h

table_length :
    (n : ℕ) (named hs : List Expression) → length named ≤ n → n + length hs ≤ max_rules → length (table n named hs) ≡ 4 * max_rules
unfolding table
table_length n named hs le h =
    length-append (filled named (n - length named)) (filled hs (max_rules - n - length hs))
    ∙ omega (arith, filled_length named (n - length named), filled_length hs (max_rules - n - length hs))

-- A LINE'S OWN RULE
pub named_written :
    (n : ℕ) (named hs : List Expression) (x : Expression) → length named < n → n + length hs ≤ max_rules →
    rule_put (table n named hs) (length named) x ≡ table n (named ++ (x ∷ [])) hs
unfolding table
named_written n named hs x h fit =
    let room : n - length named ≡ suc (n - length (named ++ (x ∷ []))) = omega (arith, length-append named (x ∷ [])) in
    let q = filled hs (max_rules - n - length hs) in
    put_written (table n named hs) (length named) x (omega (arith, table_length n named hs (omega arith) fit))
    ∙ ap (λ (z : ℕ). written (filled named z ++ q) (4 * length named) (rule_bytes x)) room
    ∙ written_left (filled named (suc (n - length (named ++ (x ∷ []))))) q (4 * length named) (rule_bytes x)
    (omega (arith, four_bytes x, filled_length named (suc (n - length (named ++ (x ∷ []))))))
    ∙ ap (λ (bs : List ℕ). bs ++ q) (written_zeros named x (n - length (named ++ (x ∷ []))))

-- HELPER RULES, one and many
helper_written :
    (n : ℕ) (named hs : List Expression) (x : Expression) → length named ≤ n → n + length hs < max_rules →
    rule_put (table n named hs) (n + length hs) x ≡ table n named (hs ++ (x ∷ []))
unfolding table
helper_written n named hs x le h =
    let room : max_rules - n - length hs ≡ suc (max_rules - n - length (hs ++ (x ∷ []))) = omega (arith, length-append hs (x ∷ [])) in
    let p = filled named (n - length named) in
    let place : 4 * (n + length hs) ≡ length p + 4 * length hs = omega (arith, filled_length named (n - length named)) in
    put_written (table n named hs) (n + length hs) x (omega (arith, table_length n named hs le (omega arith)))
    ∙ ap (λ (z : ℕ). written (p ++ filled hs z) (4 * (n + length hs)) (rule_bytes x)) room
    ∙ ap (λ (i : ℕ). written (p ++ filled hs (suc (max_rules - n - length (hs ++ (x ∷ []))))) i (rule_bytes x)) place
    ∙ written_right p (filled hs (suc (max_rules - n - length (hs ++ (x ∷ []))))) (4 * length hs) (rule_bytes x)
    ∙ ap (λ (bs : List ℕ). p ++ bs) (written_zeros hs x (max_rules - n - length (hs ++ (x ∷ []))))

pub helpers_written :
    (n : ℕ) (named hs xs : List Expression) → length named ≤ n → n + length hs + length xs ≤ max_rules →
    put_rules (table n named hs) (n + length hs) xs ≡ table n named (hs ++ xs)
unfolding put_rules
helpers_written n named hs [] le h = ap (λ (ys : List Expression). table n named ys) (sym (append-nil hs))
helpers_written n named hs (x ∷ xs) le h =
    let more : suc (n + length hs) ≡ n + length (hs ++ (x ∷ [])) = omega (arith, length-append hs (x ∷ [])) in
    ap (λ (bs : List ℕ). put_rules bs (suc (n + length hs)) xs) (helper_written n named hs x le (omega arith))
    ∙ ap (λ (m : ℕ). put_rules (table n named (hs ++ (x ∷ []))) m xs) more
    ∙ helpers_written n named (hs ++ (x ∷ [])) xs le (omega (arith, length-append hs (x ∷ [])))
    ∙ ap (λ (ys : List Expression). table n named ys) (append_assoc hs (x ∷ []) xs)

-- AT FIRST, nothing; AT LAST, the grammar's bytes and 0 after them
pub table_first : (n : ℕ) → n ≤ max_rules → zeros (4 * max_rules) ≡ table n [] []
unfolding table encode
table_first n h =
    let sum : 4 * max_rules ≡ 4 * (n - 0) + 4 * (max_rules - n - 0) = omega arith in
    ap (λ (m : ℕ). zeros m) sum ∙ sym (zeros_append (4 * (n - 0)) (4 * (max_rules - n - 0)))

pub table_last :
    (n : ℕ) (named hs : List Expression) → length named ≡ n → n + length hs ≤ max_rules → table n named hs ≡ padded (encode (named ++ hs))
unfolding table
table_last n named hs e h =
    let none : 4 * (n - length named) ≡ 0 = omega arith in
    let left : 4 * (max_rules - n - length hs) ≡ 4 * max_rules - length (encode (named ++ hs)) =
    omega (arith, length_encode (named ++ hs), length-append named hs)
    in
    ap (λ (k : ℕ). (encode named ++ zeros k) ++ filled hs (max_rules - n - length hs)) none
    ∙ ap (λ (bs : List ℕ). bs ++ filled hs (max_rules - n - length hs)) (append-nil (encode named))
    ∙ sym (append_assoc (encode named) (encode hs) (zeros (4 * (max_rules - n - length hs))))
    ∙ ap (λ (bs : List ℕ). bs ++ zeros (4 * (max_rules - n - length hs))) (sym (encode_append named hs))
    ∙ ap (λ (k : ℕ). encode (named ++ hs) ++ zeros k) left
