-- The examples of grammars as text, computed: a text at fault by its first fault, and one that is legal by its tree. Assumes nothing.
use mathlib.Core.Path.{◌≡◌, refl, sym, ap, subst, ◌∙◌}
use mathlib.Core.List.Memᴰ
use mathlib.Core.List.{List, [], ◌∷◌}
use Prim.Native.Nat.{ℕ, suc}
use native.Mathlib.Omega.{arith}
use lib.ListN.{get_or}
use Rattle.machine.specs.Verdicts.{Distinct}
use Rattle.refusal.specs.declared.Refusal.{Refusal}
use Rattle.refusal.specs.First.{refusal, no_refusal, or_else, refuse_if}
use Rattle.syntax.specs.declared.Leaf.TheVariants.{AnyByte}
use Rattle.syntax.specs.declared.Prefix.TheVariants.{NotPredicate}
use Rattle.syntax.specs.declared.Sign.TheVariants.{Operand, Before, Opening, Closing, Equals, Semicolon}
use Rattle.syntax.specs.Tokens as Tokens
use Rattle.syntax.specs.Tokens.{Token, name, sign}
use Rattle.syntax.specs.Trees.{Tree, leaf, prefixed, sequence, Definition, choices, parts, operand, Derives, Reads, Legal, max_depth, LegalText}
use Rattle.syntax.specs.Faults as Faults
use Rattle.syntax.specs.Needs as Needs
use Rattle.syntax.specs.Compile as Compile
use Rattle.syntax.specs.Reading.{Reading, Refused, Grammar, ReadSays, at_fault, refused, read}
use Rattle.syntax.proofs.ReadingExact.{reading_exact}
use Rattle.std.specs.Prelude.{Result}
use Rattle.reader.specs.declared.GrammarBytes.{GrammarBytes}
use Rattle.reader.specs.Calls.{grammar_answer, ReadTells}
use Rattle.worked_examples.specs.Examples.{Each, nil, cons}
use Rattle.worked_examples.specs.TextExamples.{bytes_of, ReadSo, any_bytes, chained, read_table, refused_table}

-- ONE ANSWER
answered : (text : List ℕ) {a : Reading} → ReadSays text a → (r : Result GrammarBytes Refusal) → ReadTells text r → r ≡ grammar_answer a
answered text {a} s r t = let (b, says, only) = reading_exact text in t.told ∙ ap grammar_answer (only t.reading t.says ∙ sym (only a s))

-- by a fault,
faulty : (text : List ℕ) (n p : ℕ) → Faults.fault text ≡ refusal (suc n) p → ReadSays text (Refused (refusal (suc n) p))
faulty text n p e =
    let some : (Faults.fault text).number ≡ 0 → ⊥ = λ z. let is = ap (λ (f : Refusal). f.number) e in omega (arith, is, z) in
    subst (λ (f : Refusal). ReadSays text (Refused f)) e (at_fault some)

-- or by lines
module _ (text : List ℕ) {ds : List Definition} (legal : LegalText text ds) where
  lines : (gs : List ℕ) → Needs.later_refusal text ds ≡ no_refusal → Compile.grammar_of ds ≡ gs → ReadSays text (Grammar gs)
  lines gs none e = subst (λ (hs : List ℕ). ReadSays text (Grammar hs)) e (read legal (ap (λ (f : Refusal). f.number) none))

  later : (n p : ℕ) → Needs.later_refusal text ds ≡ refusal (suc n) p → ReadSays text (Refused (refusal (suc n) p))
  later n p e =
      let some : (Needs.later_refusal text ds).number ≡ 0 → ⊥ = λ z. let is = ap (λ (f : Refusal). f.number) e in omega (arith, is, z) in
      subst (λ (f : Refusal). ReadSays text (Refused f)) e (refused legal some)

abbrev any : Token
any = sign (Operand AnyByte)

-- TREES: an operand alone, in four brackets, four dots before others; a line
module _ {d : ℕ} {ts us : List Token} {e : Tree} where
  alone : Derives operand d ts e us → Derives choices d ts e us
  alone x = Derives.last_choice (Derives.last_part (Derives.no_prefix (Derives.no_suffix x)))

  dot : Derives parts d ts e us → Derives parts d (any ∷ ts) (sequence (leaf AnyByte) e) us
  dot x = Derives.more_parts (Derives.no_prefix (Derives.no_suffix Derives.a_leaf)) x

not_dot :
    {d : ℕ} {ts us : List Token} {e : Tree} → Derives parts d ts e us →
    Derives parts d (sign (Before NotPredicate) ∷ any ∷ ts) (sequence (prefixed NotPredicate (leaf AnyByte)) e) us
not_dot x = Derives.more_parts (Derives.a_prefix (Derives.no_prefix (Derives.no_suffix Derives.a_leaf))) x

last_dot : {d : ℕ} {us : List Token} → Derives parts d (any ∷ us) (leaf AnyByte) us
last_dot = Derives.last_part (Derives.no_prefix (Derives.no_suffix Derives.a_leaf))

one_line : {n : List ℕ} {ts : List Token} {e : Tree} → Derives choices max_depth ts e (sign Semicolon ∷ []) →
    Legal max_depth (name n ∷ sign Equals ∷ ts) (record { letters = n; body = e } ∷ [])
one_line x = record { reads = Reads.last_line x; distinct = Distinct.cons Memᴰ.not-nil Distinct.nil }

two_lines :
    {n m : List ℕ} {ts us : List Token} {e f : Tree} → Derives choices max_depth ts e (sign Semicolon ∷ name m ∷ sign Equals ∷ us) →
    Derives choices max_depth us f (sign Semicolon ∷ []) → (n ≡ m → ⊥) →
    Legal max_depth (name n ∷ sign Equals ∷ ts) (record { letters = n; body = e } ∷ record { letters = m; body = f } ∷ [])
two_lines x y other =
    record {
      reads = Reads.more_lines x (Reads.last_line y);
      distinct = Distinct.cons (λ m. other (Memᴰ.eq_of_singleton m)) (Distinct.cons Memᴰ.not-nil Distinct.nil);
    }

apart : ◌≡◌ {A = List ℕ} (97 ∷ []) (98 ∷ []) → ⊥
apart e = let first = ap (λ (l : List ℕ). get_or l 0 0) e in omega (arith, first)

-- brackets and dots by four
four_brackets :
    {d : ℕ} {ts us : List Token} {e : Tree} → Derives operand d ts e (sign Closing ∷ sign Closing ∷ sign Closing ∷ sign Closing ∷ us) →
    Derives operand (suc (suc (suc (suc d)))) (sign Opening ∷ sign Opening ∷ sign Opening ∷ sign Opening ∷ ts) e us
four_brackets x = Derives.brackets (alone (Derives.brackets (alone (Derives.brackets (alone (Derives.brackets (alone x)))))))

four_dots :
    {d : ℕ} {ts us : List Token} {e : Tree} → Derives parts d ts e us →
    Derives parts d (any ∷ any ∷ any ∷ any ∷ ts) (sequence (leaf AnyByte) (sequence (leaf AnyByte) (sequence (leaf AnyByte) (sequence (leaf AnyByte) e)))) us
four_dots x = dot (dot (dot (dot x)))

-- THE TABLES
pub text_examples : Each ReadSo read_table × Each ReadSo refused_table
unfolding ReadSo read_table refused_table bytes_of any_bytes chained or_else refuse_if
    Tokens.lexemes Tokens.lexemes_from Tokens.tokens Tokens.skipped Tokens.token_at Tokens.letter Tokens.word Tokens.same Tokens.letters
    Tokens.width_at Tokens.range_there Tokens.sign_of
    Faults.fault Faults.first_wrong Faults.next Faults.to_if Faults.not_in Faults.is_equals Faults.by_sign Faults.defined_after Faults.name_of
    Faults.at_end Faults.first_undefined Faults.undefined_in
    Needs.later_refusal Needs.needs Needs.line_need Needs.need Needs.prefix_need
    Compile.grammar_of Compile.all_rules Compile.named_from Compile.helpers_from Compile.line_rule Compile.line_helpers Compile.top_rule
    Compile.top_helpers Compile.compile Compile.compile_leaf Compile.place Compile.own_rules Compile.own_number Compile.index_of Compile.encode
    Compile.rule_bytes
text_examples = (
  cons (answered _ (lines _ (one_line (alone Derives.a_range)) _ refl refl))
      (cons (answered _ (lines _ (one_line (alone Derives.a_range)) _ refl refl))
      (cons (answered _ (lines _ (one_line (alone Derives.a_range)) _ refl refl))
      (cons (answered _ (lines _ (one_line (alone Derives.a_leaf)) _ refl refl))
      (cons (answered _ (lines _ (two_lines (alone Derives.a_name) (alone Derives.a_leaf) apart) _ refl refl))
      (cons (answered _ (lines _ (one_line (alone (four_brackets (four_brackets (four_brackets (four_brackets Derives.a_leaf)))))) _ refl refl))
      (cons (answered _ (lines _ (one_line (Derives.last_choice (four_dots (four_dots (four_dots (dot (dot (dot last_dot)))))))) _ refl refl)) nil)))))),
  cons (answered _ (faulty _ 14 0 refl))
      (cons (answered _ (faulty _ 14 2 refl))
      (cons (answered _ (faulty _ 14 2 refl))
      (cons (answered _ (faulty _ 14 0 refl))
      (cons (answered _ (faulty _ 14 0 refl))
      (cons (answered _ (faulty _ 14 4 refl))
      (cons (answered _ (faulty _ 14 3 refl))
      (cons (answered _ (faulty _ 14 4 refl))
      (cons (answered _ (later _ (one_line (alone Derives.a_name)) 14 2 refl))
      (cons (answered _ (faulty _ 14 5 refl))
      (cons (answered _ (faulty _ 16 18 refl))
      (cons (answered _ (later _ (one_line (Derives.last_choice (not_dot (four_dots (four_dots (four_dots (dot (dot last_dot)))))))) 15 20 refl)) nil))))))))))),
)
