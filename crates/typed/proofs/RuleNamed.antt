-- From what the check of a grammar says to what the check of its text says: the rule that leads back to itself is of a line, and the line has a name. Assumes nothing.
use mathlib.Core.Path.{◌≡◌, refl, sym, ap, ◌∙◌}
use mathlib.Core.Bool.{true}
use mathlib.Core.List.{List}
use Prim.Native.Nat.{ℕ, ◌<◌}
use native.Mathlib.Omega.{arith}
use lib.ListN.{get_or}
use borrow.Author.Tests.{eq-eqb, eqb-false}
use Rattle.refusal.specs.declared.Refusal.{Refusal}
use Rattle.refusal.specs.First.{refusal, or_else}
use Rattle.refusal.specs.Checking.{checked}
use Rattle.refusal.proofs.Checked.{checked-refuses, checked-refused}
use Rattle.grammar.specs.Grammar.{rules, grammar_refusal}
use Rattle.grammar.proofs.ConditionsMet.{grammar_answer}
use Rattle.recursion.specs.LeftRecursion.{RecursionRow, no_recursion, bad_grammar, recursive as leads_back}
use Rattle.recursion.specs.Computed.{recursion_from, recursion_refusal}
use Rattle.recursion.proofs.RecursionRows.{recursion_answer, passes as grammar_passes}
use Rattle.syntax.specs.Tokens.{lexemes}
use Rattle.syntax.specs.Trees.{Definition, LegalText}
use Rattle.syntax.specs.RuleLines.{line_offsets, LineOfRule}
use Rattle.syntax.specs.Reading.{Grammar, ReadSays}
use Rattle.syntax.proofs.RuleLines.{line_there}
use Rattle.scanner.proofs.LineNames.{name_at}
use Rattle.reader.specs.Code.Lines.{LinesKept, RuleOfLine}
use Rattle.std.specs.Prelude.{Ok, Err}
use Rattle.typed.specs.declared.left_recursion.RecursionFault.TheVariants.{Recursive}
use Rattle.typed.specs.Recursion.{TextRecursionSays, passes, recursive}
use Rattle.typed.proofs.ReadRight.{typed_grammar}

pub refused_some : (f : Refusal) {e : Refusal} → checked f ≡ Err e → e.number ≡ 0 → ⊥
refused_some f {e} h z =
    eqb-false _ _ (checked-refused f e h) (ap (λ (g : Refusal). g.number) (sym (checked-refuses f e h)) ∙ z)

-- THE CHECK OF A GRAMMAR THAT WAS READ: 11 and 12 don't refuse it
module _ (text gs : List ℕ) (says : ReadSays text (Grammar gs)) (f : Refusal) (is : f ≡ recursion_from (rules gs) 0 gs) where
  good : (grammar_refusal gs).number ≡ 0
  good = (typed_grammar text gs says).good

  recursion_is : recursion_refusal gs ≡ f
  unfolding recursion_refusal or_else
  recursion_is = simp (eq-eqb (grammar_refusal gs).number 0 good) (sym is)

  pub text_passes : f.number ≡ 0 → TextRecursionSays text (Ok tt)
  text_passes z =
      let p = grammar_passes gs (ap (λ (g : Refusal). g.number) recursion_is ∙ z) in
      passes says ((recursion_answer gs 0 0).1 (no_recursion p))

  module _ (some : f.number ≡ 0 → ⊥) where
    -- the only other row is 19
    nineteen : (f.number ≡ 19) × (f.place < rules gs)
    nineteen = go ((recursion_answer gs f.number f.place).0 recursion_is) refl
      where
        go : {n p : ℕ} → RecursionRow gs n p → n ≡ f.number → (n ≡ 19) × (p < rules gs)
        go (no_recursion x) e = absurd (some (sym e))
        go (bad_grammar {number = n} {place = p} bad row) e =
            absurd (bad (sym (ap (λ (g : Refusal). g.number) ((grammar_answer gs n p).1 row)) ∙ good))
        go (leads_back right lowest) e = (refl, lowest.below)

    -- and the rule is of a line whose name stands in the text
    pub text_recursive :
        (lines line offset : ℕ) (ends : List ℕ) → ((ds : List Definition) → LegalText text ds → LinesKept ds lines ends) → RuleOfLine lines ends f.place line →
        offset ≡ get_or (line_offsets true (lexemes text)) line 0 → TextRecursionSays text (Err (Recursive f.place offset))
    unfolding rules
    text_recursive lines line offset ends kept found e =
        let g = typed_grammar text gs says in
        let ds : List Definition = g.lines in
        let of : LineOfRule ds f.place line = found ds (kept ds g.legal) (omega (arith, g.counted, nineteen.1)) in
        let named = name_at text ds line offset g.legal (line_there of) e in
        recursive g.legal says (recursion_is ∙ ap (λ (n : ℕ). refusal n f.place) nineteen.0) of named
