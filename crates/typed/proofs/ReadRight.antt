-- What reading a text gives: one answer, and a grammar that is right. Assumes nothing.
use mathlib.Core.Path.{◌≡◌, refl, sym, ap, subst, ◌∙◌}
use mathlib.Core.Bool.{Bool, true, false, cond}
use mathlib.Core.List.{List, [], ◌∷◌}
use Prim.Native.Nat.{ℕ, ◌*◌, ◌-◌, ◌≤◌}
use native.Mathlib.Omega.{arith}
use lib.Dec.{eqb, ltb}
use lib.ListN.{length, take, replicate, length-append}
use lib.Seq.{take_at, length-take-le}
use Rattle.refusal.specs.declared.Refusal.{Refusal}
use Rattle.refusal.specs.First.{or_else, refuse_if}
use Rattle.grammar.specs.Grammar.{max_rules, rules}
use Rattle.grammar.proofs.ConditionsMet.{grammar_right}
use Rattle.syntax.specs.Tokens.{Token, Lexeme, lexemes}
use Rattle.syntax.specs.Trees.{Definition, names, Reads, last_line, more_lines, LegalText}
use Rattle.syntax.specs.Faults.{fault, undefined_in, first_undefined}
use Rattle.syntax.specs.FaultMeaning.{WrongAt, misplaced, too_deep, ends_early}
use Rattle.syntax.specs.Needs.{needs, later_refusal}
use Rattle.syntax.specs.Compile.{grammar_of}
use Rattle.syntax_theory.specs.RuleOf.{TypedRight}
use Rattle.syntax.specs.Reading.{Reading, Refused, Grammar, ReadSays, at_fault, refused, read}
use Rattle.syntax.proofs.FaultsRight.{faults_right}
use Rattle.syntax.proofs.ReadingExact.{reading_exact}
use Rattle.syntax_theory.proofs.TypedRight.{typed_right}
use Rattle.std.specs.Prelude.{Result, Ok, Err}
use Rattle.reader.specs.declared.GrammarBytes.{GrammarBytes}
use Rattle.reader.specs.Calls.{padded, grammar_answer, ReadTells}
use Rattle.typed.specs.Calls.{BuildTextSays, unread}
use Rattle.typed.specs.TypedCalls.{TypedGrammar}

-- ONE ANSWER
pub one_answer : (text : List ℕ) (a b : Reading) → ReadSays text a → ReadSays text b → a ≡ b
one_answer text a b p q = let (r, s, only) = reading_exact text in only a p ∙ sym (only b q)

pub one_grammar : (text gs hs : List ℕ) → ReadSays text (Grammar gs) → ReadSays text (Grammar hs) → gs ≡ hs
one_grammar text gs hs p q = let e = one_answer text (Grammar gs) (Grammar hs) p q in cc

pub one_refusal : (text : List ℕ) (f g : Refusal) → ReadSays text (Refused f) → ReadSays text (Refused g) → f ≡ g
one_refusal text f g p q = let e = one_answer text (Refused f) (Refused g) p q in cc

pub not_both : (text gs : List ℕ) (f : Refusal) → ReadSays text (Refused f) → ReadSays text (Grammar gs) → ⊥
not_both text gs f p q =
    let e = one_answer text (Refused f) (Grammar gs) p q in
    let z : ◌≡◌ {A = ℕ} 0 1 = cc in
    omega arith

-- A TEXT'S REFUSAL is 15, 16 or 17
abbrev OfText : Refusal → Type 0
OfText f = (f.number ≡ 0 → ⊥) → (15 ≤ f.number) × (f.number ≤ 17)

either_of : (b : Bool) (f g : Refusal) → OfText f → OfText g → OfText (cond b f g)
either_of true f g p q = p
either_of false f g p q = q

fault_of_text : {text : List ℕ} {f : Refusal} → WrongAt text f → OfText f
fault_of_text (misplaced before later l at viable not_on) some = (omega arith, omega arith)
fault_of_text (too_deep before later l d at viable not_on deeper) some = (omega arith, omega arith)
fault_of_text (ends_early viable not_legal) some = (omega arith, omega arith)

undefined_of_text : (ms : List (List ℕ)) (ls : List Lexeme) → OfText (first_undefined ms ls)
unfolding first_undefined
undefined_of_text ms [] = λ some. absurd (some refl)
undefined_of_text ms (l ∷ ls) = either_of (undefined_in ms l.token) _ _ (λ some. (omega arith, omega arith)) (undefined_of_text ms ls)

later_of_text : (text : List ℕ) (ds : List Definition) → OfText (later_refusal text ds)
unfolding later_refusal or_else refuse_if
later_of_text text ds =
    let undefined = first_undefined (names ds) (lexemes text) in
    either_of (eqb undefined.number 0) _ undefined
    (either_of (ltb max_rules (needs ds)) _ _ (λ some. (omega arith, omega arith)) (λ some. absurd (some refl)))
    (undefined_of_text (names ds) (lexemes text))

pub text_number : {text : List ℕ} {f : Refusal} → ReadSays text (Refused f) → (15 ≤ f.number) × (f.number ≤ 17)
text_number s = go s _ refl
  where
    go : {text : List ℕ} {a : Reading} → ReadSays text a → (f : Refusal) → a ≡ Refused f → (15 ≤ f.number) × (f.number ≤ 17)
    go {text} (at_fault h) f e =
        let same : fault text ≡ f = cc in
        subst (λ (g : Refusal). (15 ≤ g.number) × (g.number ≤ 17)) same (fault_of_text (((faults_right text).0 (fault text)).1 (refl, h)) h)
    go {text} (refused {ds = ds} l h) f e =
        let same : later_refusal text ds ≡ f = cc in
        subst (λ (g : Refusal). (15 ≤ g.number) × (g.number ≤ 17)) same (later_of_text text ds h)
    go (read l h) f e = absurd (let n : ◌≡◌ {A = ℕ} 0 1 = cc in omega arith)

-- a text that is read has a line
some_line : {d : ℕ} {ts : List Token} {ds : List Definition} → Reads d ts ds → ds ≡ [] → ⊥
some_line (last_line x) e = let n : ◌≡◌ {A = ℕ} 0 1 = cc in omega arith
some_line (more_lines x r) e = let n : ◌≡◌ {A = ℕ} 0 1 = cc in omega arith

-- THE LINES OF A GRAMMAR THAT WAS READ
pub record LinesRead (text gs : List ℕ) : Type 0 where
  pub first : Definition
  pub rest : List Definition
  pub legal : LegalText text (first ∷ rest)
  pub unrefused : (later_refusal text (first ∷ rest)).number ≡ 0
  pub is : gs ≡ grammar_of (first ∷ rest)

pub lines_read : {text gs : List ℕ} → ReadSays text (Grammar gs) → LinesRead text gs
lines_read s = go s _ refl
  where
    go : {text : List ℕ} {a : Reading} → ReadSays text a → (gs : List ℕ) → a ≡ Grammar gs → LinesRead text gs
    go (at_fault h) gs e = absurd (let n : ◌≡◌ {A = ℕ} 0 1 = cc in omega arith)
    go (refused l h) gs e = absurd (let n : ◌≡◌ {A = ℕ} 0 1 = cc in omega arith)
    go {text} (read {ds = ds} l h) gs e = with_first ds l h (cc)
      where
        with_first : (es : List Definition) → LegalText text es → (later_refusal text es).number ≡ 0 → gs ≡ grammar_of es → LinesRead text gs
        with_first [] k u q = absurd (some_line k.reads refl)
        with_first (d ∷ rest) k u q = record { first = d; rest = rest; legal = k; unrefused = u; is = q }

-- it is right
pub lines_right : {text gs : List ℕ} (l : LinesRead text gs) → TypedRight (l.first ∷ l.rest) gs
lines_right {text} l = rw l.is (typed_right text (l.first ∷ l.rest) l.legal l.unrefused)

pub rules_needed : {ds : List Definition} {gs : List ℕ} → TypedRight ds gs → rules gs ≡ needs ds
unfolding rules
rules_needed t = omega (arith, t.counted)

pub typed_grammar : (text gs : List ℕ) → ReadSays text (Grammar gs) → TypedGrammar text gs
typed_grammar text gs s =
    let l = lines_read s in
    let t = lines_right l in
    record { lines = l.first ∷ l.rest; legal = l.legal; good = t.good; counted = rules_needed t }

-- WHAT READING ANSWERS: a refusal, or a grammar at the start of its bytes
pub record GrammarThere (text : List ℕ) (r : GrammarBytes) : Type 0 where
  pub fits : r.length ≤ length r.bytes
  pub says : ReadSays text (Grammar (take r.length r.bytes))

grammar_there : (text gs : List ℕ) (r : GrammarBytes) → ReadSays text (Grammar gs) → r.length ≡ length gs → r.bytes ≡ padded gs → GrammarThere text r
grammar_there text gs r s l b =
    let front : take r.length r.bytes ≡ gs = ap (take r.length) b ∙ take_at gs _ r.length (sym l) in
    record {
      fits = rw b (omega (arith, length-append gs (replicate (4 * max_rules - length gs) 0)));
      says = rw front s;
    }

told_refused : (text : List ℕ) (f : Refusal) (a : Reading) → ReadSays text a → Err f ≡ grammar_answer a → ReadSays text (Refused f)
unfolding grammar_answer
told_refused text f (Refused g) s e =
    let same : g ≡ f = cc in
    subst (λ (h : Refusal). ReadSays text (Refused h)) same s
told_refused text f (Grammar gs) s e = absurd (let n : ◌≡◌ {A = ℕ} 0 1 = cc in omega arith)

told_grammar : (text : List ℕ) (r : GrammarBytes) (a : Reading) → ReadSays text a → Ok r ≡ grammar_answer a → GrammarThere text r
unfolding grammar_answer
told_grammar text r (Refused f) s e = absurd (let n : ◌≡◌ {A = ℕ} 0 1 = cc in omega arith)
told_grammar text r (Grammar gs) s e =
    let same : r ≡ record { bytes = padded gs; length = length gs } = cc in
    grammar_there text gs r s (ap (λ (x : GrammarBytes). x.length) same) (ap (λ (x : GrammarBytes). x.bytes) same)

module _ (text : List ℕ) (r : GrammarBytes) (t : ReadTells text (Ok r)) where
  pub grammar_read : GrammarThere text r
  grammar_read = told_grammar text r t.reading t.says t.told

  pub good_read : TypedGrammar text (take r.length r.bytes)
  good_read = typed_grammar text _ grammar_read.says

  -- its length is that of some of its bytes, and of a grammar
  pub read_fits : (r.length ≤ length r.bytes) × (r.length ≤ 4 * max_rules)
  read_fits = (grammar_read.fits, omega (arith, length-take-le r.length r.bytes grammar_read.fits, (grammar_right _ good_read.good).long.most))

pub text_refused : (text : List ℕ) (f : Refusal) → ReadTells text (Err f) → ReadSays text (Refused f)
text_refused text f t = told_refused text f t.reading t.says t.told

-- a text that is refused changes no byte of the lent buffer
pub unread_told : (text image : List ℕ) (f : Refusal) → ReadTells text (Err f) → BuildTextSays text (Err f) image image
unread_told text image f t = unread (text_refused _ _ t)

pub read_determined : (text : List ℕ) (r s : Result GrammarBytes Refusal) → ReadTells text r → ReadTells text s → r ≡ s
read_determined text r s t u =
    t.told ∙ ap grammar_answer (one_answer text t.reading u.reading t.says u.says) ∙ sym u.told
