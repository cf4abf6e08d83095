-- The grammar built of a legal text that is not refused is right: never refused, of as many rules as needed, with lines first and helpers unshared; and it parses as the lines mean. Assumes nothing.
use mathlib.Core.Path.{◌≡◌, refl, ap, subst, ◌∙◌}
use mathlib.Core.Bool.{Bool, true, false, cond}
use mathlib.Core.List.{List, [], ◌++◌}
use mathlib.Core.Logic.{◌↔◌}
use mathlib.Core.Option.{Option}
use Prim.Native.Nat.{ℕ, ◌+◌, ◌*◌, ◌<◌, ◌≤◌}
use native.Mathlib.Omega.{arith}
use lib.Dec.{eqb, ltb}
use lib.ListN.{length}
use borrow.Author.Tests.{eqb-true, eqb-false, ltb-false}
use Rattle.machine.specs.Verdicts.{Distinct}
use Rattle.refusal.specs.declared.Refusal.{Refusal}
use Rattle.refusal.specs.First.{refusal, no_refusal, or_else, refuse_if}
use Rattle.grammar.specs.declared.Expression.TheVariants.{Empty}
use Rattle.grammar.specs.Grammar.{max_rules, rules, PartsBelow, expression}
use Rattle.grammar.specs.Conditions.{GrammarLengthRight, GrammarRight, unrefused_grammar}
use Rattle.grammar.specs.Parsing.{Parses}
use Rattle.grammar.proofs.ConditionsMet.{grammar_answer}
use Rattle.syntax.specs.Tokens.{Token, lexemes}
use Rattle.syntax.specs.Trees.{Tree, nonterminal, Definition, names, Defines, Reads, LegalText}
use Rattle.syntax_theory.specs.Meaning.{Means}
use Rattle.syntax.specs.Faults.{first_undefined}
use Rattle.syntax.specs.Needs.{needs, later_refusal}
use Rattle.syntax.specs.Compile.{named_from, helpers_from, all_rules, grammar_of}
use Rattle.syntax_theory.specs.RuleOf.{RuleOf, TypedRight}
use Rattle.syntax.proofs.Counting.{named_counted, helpers_counted, lines_needed, all_counted}
use Rattle.syntax_theory.proofs.Numbering.{Each, each_append, each_at, Holds, holds_front, holds_after}
use Rattle.syntax.proofs.Encoding.{length_encode}
use Rattle.syntax_theory.proofs.Encoded.{written, written_right, encoded_holds}
use Rattle.syntax_theory.proofs.Named.{ClosedLine, one_body, read_closed, all_known}
use Rattle.syntax_theory.proofs.Lines.{LinesAt, lines_stand, line_of}
use Rattle.syntax_theory.proofs.PartsBelow.{lines_below}
use Rattle.syntax_theory.proofs.MeansParses.{EachLine, means_parses}
use Rattle.syntax_theory.proofs.ParsesMeans.{parses_means}

-- NOT REFUSED: no name is undefined, and the rules are few enough
neither : (a b : Refusal) → (or_else a b).number ≡ 0 → (a.number ≡ 0) × (b.number ≡ 0)
unfolding or_else
neither a b = go (eqb a.number 0) refl
  where
    go : (t : Bool) → eqb a.number 0 ≡ t → (cond t b a).number ≡ 0 → (a.number ≡ 0) × (b.number ≡ 0)
    go true f h = (eqb-true a.number 0 f, h)
    go false f h = absurd (eqb-false a.number 0 f h)

all_defined : (text : List ℕ) (ds : List Definition) → (later_refusal text ds).number ≡ 0 → (first_undefined (names ds) (lexemes text)).number ≡ 0
unfolding later_refusal
all_defined text ds h = (neither _ _ h).0

few_rules : (text : List ℕ) (ds : List Definition) → (later_refusal text ds).number ≡ 0 → needs ds ≤ max_rules
unfolding later_refusal refuse_if
few_rules text ds h = go (ltb max_rules (needs ds)) refl (neither _ _ h).1
  where
    go : (t : Bool) → ltb max_rules (needs ds) ≡ t → (cond t (refusal 16 (length text)) no_refusal).number ≡ 0 → needs ds ≤ max_rules
    go true f g = absurd (omega arith)
    go false f g = ltb-false max_rules (needs ds) f

some_line : {deep : ℕ} {ts : List Token} {ds : List Definition} → Reads deep ts ds → 0 < length ds
some_line (Reads.last_line p) = omega arith
some_line (Reads.more_lines p r) = omega arith

module _ (ds : List Definition) where
  -- THE BYTES
  long : length (grammar_of ds) ≡ 4 * needs ds
  unfolding grammar_of
  long = length_encode (all_rules ds) ∙ ap (λ (m : ℕ). 4 * m) (all_counted ds)

  rules_are : rules (grammar_of ds) ≡ needs ds
  unfolding rules
  rules_are = omega (arith, long)

  length_right : 0 < length ds → needs ds ≤ max_rules → GrammarLengthRight (grammar_of ds)
  length_right some few =
      record {
        some = λ z. omega (arith, long, lines_needed ds);
        most = omega (arith, long);
        whole = omega (arith, long, rules_are);
      }

  -- the lines' own rules, then the helpers
  pub rules_held :
      Holds (expression (grammar_of ds)) 0 (named_from (names ds) 0 (length ds) ds)
      × Holds (expression (grammar_of ds)) (length ds) (helpers_from (names ds) 0 (length ds) ds)
  unfolding all_rules grammar_of
  rules_held =
      let E = expression (grammar_of ds) in
      let tops = named_from (names ds) 0 (length ds) ds in
      let rest = helpers_from (names ds) 0 (length ds) ds in
      let all : Holds E 0 (tops ++ rest) = encoded_holds (all_rules ds) in
      let after : 0 + length tops ≡ length ds = omega (arith, named_counted (names ds) 0 (length ds) ds) in
      (holds_front tops rest all, subst (λ m. Holds E m rest) after (holds_after tops rest all))

  module _ (closed : Each (ClosedLine ds) ds) where
    all_below : Each (PartsBelow (needs ds)) (all_rules ds)
    unfolding all_rules
    all_below =
        let counts = helpers_counted (names ds) 0 (length ds) ds in
        let b = lines_below ds (needs ds) (lines_needed ds) 0 (length ds) closed (omega (arith, lines_needed ds)) (omega (arith, counts)) in
        each_append b.0 b.1

    right : 0 < length ds → needs ds ≤ max_rules → GrammarRight (grammar_of ds)
    unfolding grammar_of
    right some few =
        record {
          long = length_right some few;
          rules_right = λ k h.
              let l : k < length (all_rules ds) = omega (arith, all_counted ds, rules_are) in
              written_right _ (written (all_rules ds) k l) (rw rules_are (each_at all_below k Empty l));
        }

    -- THE LINES
    standing : LinesAt (expression (grammar_of ds)) ds 0 ds (length ds) (needs ds)
    standing =
        let (tops, rest) = rules_held in
        subst (LinesAt (expression (grammar_of ds)) ds 0 ds (length ds)) (helpers_counted (names ds) 0 (length ds) ds)
        (lines_stand 0 (length ds) closed tops rest)

    each_line : EachLine (expression (grammar_of ds)) ds
    each_line k n e d = line_of d standing.lines k (omega arith)

    -- WHAT THEY PARSE; a name has one line
    module _ (unique : Distinct (names ds)) {cs : List ℕ} {k i : ℕ} {n : List ℕ} {e : Tree} {o : Option ℕ} (d : Defines ds k n e) where
      called : Means ds cs (nonterminal n) i o → Means ds cs e i o
      called (Means.call c m) = subst (λ (f : Tree). Means ds cs f i o) (one_body unique c d) m

      same_results : Parses (expression (grammar_of ds)) cs k i o ↔ Means ds cs e i o
      same_results = (
        λ p. called (parses_means each_line p (nonterminal n) [] (RuleOf.call d)),
        λ m. means_parses each_line unique (Means.call d m) k [] (RuleOf.call d),
      )

-- THE GRAMMAR OF A LEGAL TEXT; every name in it is that of a line
pub legal_closed : (text : List ℕ) (ds : List Definition) → LegalText text ds → (later_refusal text ds).number ≡ 0 → Each (ClosedLine ds) ds
legal_closed text ds legal h = read_closed ds legal.reads (all_known ds (lexemes text) (all_defined text ds h))

pub typed_right : (text : List ℕ) (ds : List Definition) → LegalText text ds → (later_refusal text ds).number ≡ 0 → TypedRight ds (grammar_of ds)
typed_right text ds legal h =
    let closed : Each (ClosedLine ds) ds = legal_closed text ds legal h in
    let s = standing ds closed in
    let row = unrefused_grammar (right ds closed (some_line legal.reads) (few_rules text ds h)) in
    record {
      good = ap (λ (r : Refusal). r.number) ((grammar_answer (grammar_of ds) 0 0).1 row);
      counted = long ds;
      helpers = s.helpers;
      in_order = s.lines;
      follow = s.block.inside;
      unshared = s.block.distinct;
      parses = λ k n e d cs i o. same_results ds closed legal.distinct d;
    }
