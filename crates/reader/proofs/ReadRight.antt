-- The call `read`: each of its answers is the one that the definitions give. Assumes nothing.
use mathlib.Core.Path.{◌≡◌, refl, sym, ap, subst, ◌∙◌}
use mathlib.Core.List.{List, [], ◌∷◌, ◌++◌}
use Prim.Native.Nat.{ℕ, suc, ◌*◌, ◌<◌, ◌≤◌}
use native.Mathlib.Omega.{arith}
use lib.Dec.{ltb}
use lib.ListN.{length}
use borrow.Author.Tests.{eq-eqb, ne_eqb, lt-ltb, le-ltb, eqb-false}
use Rattle.refusal.specs.declared.Refusal.{Refusal}
use Rattle.refusal.specs.First.{refusal, no_refusal, or_else, refuse_if}
use Rattle.refusal.specs.Checking.{checked}
use Rattle.refusal.proofs.Checked.{checked-passes, checked-refuses, checked-refused}
use Rattle.grammar.specs.Grammar.{max_rules}
use Rattle.syntax.specs.Tokens.{Token, lexemes}
use Rattle.syntax.specs.Trees.{Definition, names, Reads, LegalText, max_depth}
use Rattle.syntax.specs.Faults.{fault, first_undefined}
use Rattle.syntax.specs.Needs.{needs, later_refusal}
use Rattle.syntax.specs.Compile.{named_from, helpers_from, encode, all_rules, grammar_of}
use Rattle.syntax.specs.Reading.{Refused, Grammar, at_fault, refused, read}
use Rattle.syntax.specs.Code.Heads.{heads}
use Rattle.syntax.proofs.Heads.{heads_are}
use Rattle.syntax.proofs.FaultsRight.{faults_right}
use Rattle.syntax.proofs.Counting.{lines_needed, all_counted}
use Rattle.syntax.proofs.Encoding.{length_encode}
use Rattle.reader.specs.declared.Lines.{Lines}
use Rattle.reader.specs.declared.GrammarBytes.{GrammarBytes}
use Rattle.expressions.specs.declared.Unfit.{Unfit}
use Rattle.std.specs.Prelude.{Result, Ok, Err, IsErrAnd}
use Rattle.expressions.proofs.Emitting.{handed_on}
use Rattle.reader.specs.declared.ReadText.{ReadText}
use Rattle.reader.specs.Calls.{padded, grammar_answer, ReadTells}
use Rattle.reader.specs.Code.Lines.{LinesMade, LinesRight, LinesRead, TextRead}
use Rattle.scanner.proofs.Searching.{tokens_start}

length_map : (ds : List Definition) → length (names ds) ≡ length ds
length_map [] = refl
length_map (d ∷ ds) = ap suc (length_map ds)

-- the same answer by the same parts
answer_by :
    (m n : ℕ) (a b : List ℕ) → m ≡ n → a ≡ b →
    ◌≡◌ {A = Result GrammarBytes Refusal} (Ok (record { bytes = a; length = m })) (Ok (record { bytes = b; length = n }))
answer_by m n a b e f = cc

-- A REFUSAL, as reading the lines answers it
pub refused_text : (text : List ℕ) (f : Refusal) → ReadTells text (grammar_answer (Refused f)) → TextRead text (Err f)
unfolding grammar_answer
refused_text text f tells = record { tells = tells; kept = tt }

-- 15 or 17, by the earliest fault
pub fault_tells :
    (text : List ℕ) → ((fault text).number ≡ 0 → ⊥) → ReadTells text (grammar_answer (Refused (fault text)))
fault_tells text some = record { reading = Refused (fault text); says = at_fault some; told = refl }

-- A TEXT WITHOUT A FAULT is legal, and its lines' names are told by its tokens
module _ (text : List ℕ) (none : (fault text).number ≡ 0) where
  legal : (ds : List Definition) × LegalText text ds
  legal = (faults_right text).1.0 none

  abbrev ds : List Definition
  ds = legal.0

  names_are : heads text ≡ names ds
  names_are = heads_are legal.1.reads

  lines_are : (es : List Definition) → LegalText text es → length (heads text) ≡ length es
  lines_are es l = ap length (heads_are l.reads) ∙ length_map es

  abbrev undefined : Refusal
  undefined = first_undefined (heads text) (lexemes text)

  undefined_is : undefined ≡ first_undefined (names ds) (lexemes text)
  undefined_is = ap (λ (ns : List (List ℕ)). first_undefined ns (lexemes text)) names_are

  later_tells : (f : Refusal) → f ≡ later_refusal text ds → (f.number ≡ 0 → ⊥) → ReadTells text (grammar_answer (Refused f))
  later_tells f is some =
      record {
        reading = Refused (later_refusal text ds);
        says = refused legal.1 (λ z. some (ap (λ (x : Refusal). x.number) is ∙ z));
        told = ap (λ (x : Refusal). grammar_answer (Refused x)) is;
      }

  -- 15, by the first name that no line defines
  pub undefined_tells : (undefined.number ≡ 0 → ⊥) → ReadTells text (grammar_answer (Refused undefined))
  unfolding later_refusal or_else
  undefined_tells some =
      let same : first_undefined (names ds) (lexemes text) ≡ later_refusal text ds =
      simp (ne_eqb (first_undefined (names ds) (lexemes text)).number 0 (λ z. some (ap (λ (f : Refusal). f.number) undefined_is ∙ z)))
      in
      later_tells undefined (undefined_is ∙ same) some

  module _ (defined : undefined.number ≡ 0) where
    later_is : later_refusal text ds ≡ refuse_if (ltb max_rules (needs ds)) (refusal 16 (length text))
    unfolding later_refusal or_else
    later_is = simp (eq-eqb (first_undefined (names ds) (lexemes text)).number 0 (sym (ap (λ (f : Refusal). f.number) undefined_is) ∙ defined))

    -- 16
    too_many : max_rules < needs ds → ReadTells text (grammar_answer (Refused (refusal 16 (length text))))
    unfolding refuse_if
    too_many h =
        let some : ◌≡◌ {A = ℕ} 16 0 → ⊥ = λ z. omega arith in
        later_tells (refusal 16 (length text)) (sym (later_is ∙ simp (lt-ltb max_rules (needs ds) h))) some

    pub many_lines_tell : max_rules < length (heads text) → ReadTells text (grammar_answer (Refused (refusal 16 (length text))))
    many_lines_tell h = too_many (omega (arith, lines_are ds legal.1, lines_needed ds))

    module _ (n : ℕ) (counted : n ≡ length (heads text)) (l : Result Lines Unfit) (built : LinesRead text 0 n l) where
      lines_right : (es : List Definition) → LegalText text es → LinesRight text es l
      lines_right es k = built es (subst (λ (ts : List Token). Reads max_depth ts es) (tokens_start text) k.reads) (sym (counted ∙ lines_are es k))

      abbrev right : LinesRight text ds l
      right = lines_right ds legal.1

      pub many_rules_tell : (e : Unfit) → l ≡ Err e → ReadTells text (grammar_answer (Refused (refusal 16 (length text))))
      many_rules_tell e is = too_many (subst (λ (r : Result Lines Unfit). LinesRight text ds r) is right)

      -- the grammar
      made : (r : Lines) → l ≡ Ok r → (es : List Definition) → LegalText text es → LinesMade text es r
      made r is es k = subst (λ (q : Result Lines Unfit). LinesRight text es q) is (lines_right es k)

      pub read_next : (r : Lines) → l ≡ Ok r → r.rules.next ≤ max_rules
      read_next r is =
          let m = made r is ds legal.1 in
          omega (arith, m.count, m.enough)

      grammar_told : (r : Lines) → l ≡ Ok r → ReadTells text (Ok (record { bytes = r.rules.bytes; length = 4 * r.rules.next }))
      unfolding refuse_if grammar_answer grammar_of all_rules
      grammar_told r is =
          let m = made r is ds legal.1 in
          let later : later_refusal text ds ≡ no_refusal = later_is ∙ simp (le-ltb max_rules (needs ds) m.enough) in
          let same : encode (named_from (heads text) 0 (length ds) ds ++ helpers_from (heads text) 0 (length ds) ds) ≡ grammar_of ds =
          ap (λ (ns : List (List ℕ)). encode (named_from ns 0 (length ds) ds ++ helpers_from ns 0 (length ds) ds)) names_are
          in
          let long : 4 * r.rules.next ≡ length (grammar_of ds) = omega (arith, m.count, length_encode (all_rules ds), all_counted ds) in
          record {
            reading = Grammar (grammar_of ds);
            says = read legal.1 (ap (λ (f : Refusal). f.number) later);
            told = answer_by _ _ _ _ long (m.bytes ∙ ap (λ (gs : List ℕ). padded gs) same);
          }

      -- and what is kept of the lines
      pub read_grammar :
          (r : Lines) → l ≡ Ok r →
          TextRead text (Ok (record { grammar = record { bytes = r.rules.bytes; length = 4 * r.rules.next }; lines = n; ends = r.ends }))
      read_grammar r is =
          record {
            tells = grammar_told r is;
            kept = record {
              few = omega (arith, lines_are ds legal.1, lines_needed ds, (made r is ds legal.1).enough);
              kept = λ es k. record { count = counted ∙ lines_are es k; ends = (made r is es k).ends };
            };
          }

-- WHAT read_lines ANSWERS, by what its checks say
abbrev pub undefined_name : (text : List ℕ) → Refusal
undefined_name text = first_undefined (heads text) (lexemes text)

pub fault_text : (text : List ℕ) (e : Refusal) → checked (fault text) ≡ Err e → TextRead text (Err e)
fault_text text e h =
    subst (λ (f : Refusal). TextRead text (Err f)) (sym (checked-refuses (fault text) e h))
    (refused_text text (fault text) (fault_tells text (eqb-false _ _ (checked-refused (fault text) e h))))

pub undefined_text : (text : List ℕ) (e : Refusal) → checked (fault text) ≡ Ok tt → checked (undefined_name text) ≡ Err e → TextRead text (Err e)
undefined_text text e none h =
    subst (λ (f : Refusal). TextRead text (Err f)) (sym (checked-refuses (undefined_name text) e h))
    (refused_text text (undefined_name text)
    (undefined_tells text (checked-passes (fault text) none) (eqb-false _ _ (checked-refused (undefined_name text) e h))))

pub many_lines_text :
    (text : List ℕ) (f : Refusal) → f ≡ refusal 16 (length text) → checked (fault text) ≡ Ok tt → checked (undefined_name text) ≡ Ok tt →
    max_rules < length (heads text) → TextRead text (Err f)
many_lines_text text f is none defined h =
    subst (λ (g : Refusal). TextRead text (Err g)) (sym is)
    (refused_text text (refusal 16 (length text))
    (many_lines_tell text (checked-passes (fault text) none) (checked-passes (undefined_name text) defined) h))

pub many_rules_text :
    (text : List ℕ) (f : Refusal) → f ≡ refusal 16 (length text) → checked (fault text) ≡ Ok tt → checked (undefined_name text) ≡ Ok tt →
    (n : ℕ) → n ≡ length (heads text) → (e : Unfit) → LinesRead text 0 n (Err e) → TextRead text (Err f)
many_rules_text text f is none defined n counted e built =
    subst (λ (g : Refusal). TextRead text (Err g)) (sym is)
    (refused_text text (refusal 16 (length text))
    (many_rules_tell text (checked-passes (fault text) none) (checked-passes (undefined_name text) defined) n counted (Err e) built e refl))

-- the same at the exit of a `?`
pub fault_handed :
    (text : List ℕ) (r : Result ReadText Refusal) (e : Refusal) → IsErrAnd r (λ y. y ≡ e) → checked (fault text) ≡ Err e → TextRead text r
fault_handed text r e h is = rw (handed_on r e h) (fault_text text e is)

pub undefined_handed :
    (text : List ℕ) (r : Result ReadText Refusal) (e : Refusal) → IsErrAnd r (λ y. y ≡ e) → checked (fault text) ≡ Ok tt →
    checked (undefined_name text) ≡ Err e → TextRead text r
undefined_handed text r e h none is = rw (handed_on r e h) (undefined_text text e none is)

-- too many lines are refused at a test that no answer names: one that is turned round is refused at a goal that is then false
pub ruleset refusal_laws = (many_lines_text)
