-- A typed grammar that passes the check for left recursion has a result for every line, and judging by it never says looping; one that does not pass is named; and the numbers that a C caller is told. Assumes nothing.
use Rattle.std.specs.Prelude.{Ok, Err}
use mathlib.Core.Path.{◌≡◌, refl, sym, ap, subst}
use mathlib.Core.List.{List, ◌∷◌}
use mathlib.Core.Logic.{◌↔◌}
use mathlib.Core.Option.{Option}
use Prim.Native.Nat.{ℕ, ◌<◌}
use native.Mathlib.Omega.{arith}
use lib.ListN.{length, get_or}
use Rattle.codec.specs.Bytes.{Bytes}
use Rattle.refusal.specs.declared.Refusal.{Refusal}
use Rattle.refusal.specs.First.{refusal}
use Rattle.machine.specs.declared.Config.{Config}
use Rattle.machine.specs.declared.Verdict.{Verdict}
use Rattle.machine.specs.declared.Verdict.TheVariants.{Looping}
use Rattle.simulator.specs.Answers.{Judged}
use Rattle.simulator.specs.Calls.{judgement, JudgeSays}
use Rattle.grammar.specs.Grammar.{rules}
use Rattle.builder.specs.declared.Matching.TheVariants.{Whole}
use Rattle.builder.specs.Image.{built}
use Rattle.recursion.specs.Computed.{recursion_refusal}
use Rattle.syntax.specs.Trees.{Tree, Definition, Defines, LegalText}
use Rattle.syntax_theory.specs.Meaning.{Means}
use Rattle.syntax.specs.Needs.{later_refusal}
use Rattle.syntax.specs.RuleLines.{first_helper, LineOfRule, own, helper, NameAt}
use Rattle.syntax.specs.Reading.{Refused as Unread, Grammar, ReadSays}
use Rattle.syntax.proofs.Counting.{lines_needed}
use Rattle.syntax.proofs.ReadingExact.{unambiguous}
use Rattle.syntax_theory.proofs.Named.{defines_below}
use Rattle.syntax_theory.proofs.LineRules.{rules_of_lines}
use Rattle.grammar_judge.specs.Calls.{Lent}
use Rattle.typed.specs.declared.left_recursion.RecursionFault.TheVariants.{Refused, Recursive}
use Rattle.typed.specs.Calls.{JudgeTextSays, refused, judged}
use Rattle.typed.specs.Recursion.{TextRecursion, TextRecursionSays, passes, recursive}
use Rattle.typed.specs.Replies.{fault_reply, of_text_recursion}
use Rattle.typed.proofs.ReadRight.{lines_read, lines_right, rules_needed, one_grammar, text_number}
use Rattle.typed.proofs.RecursionDetermined.{text_recursion_determined}
use Rattle.sejimakpu.specs.Cells.{cells, ReplyWritten}
use Rattle.promises.specs.Recursion.{RecursionNamed, RecursionLine}
use Rattle.promises.specs.Calls.{TextRecursionTold}
use Rattle.promises.proofs.NotLooping.{all_results, judged_not_looping}

clash : {A : Type 0} → ◌≡◌ {A = ℕ} 0 1 → A
clash e = absurd (omega arith)

-- A TEXT THAT PASSES is read, and its grammar passes
record Passed (text : List ℕ) : Type 0 where
  grammar : List ℕ
  read : ReadSays text (Grammar grammar)
  none : (recursion_refusal grammar).number ≡ 0

passed : {text : List ℕ} {r : TextRecursion} → TextRecursionSays text r → r ≡ Ok tt → Passed text
passed (TextRecursionSays.unread s) e = clash cc
passed (passes {gs = gs} s e) is = record { grammar = gs; read = s; none = ap (λ (f : Refusal). f.number) e }
passed (recursive l s e p x) is = clash cc

pub typed_results :
    (text cs : List ℕ) (ds : List Definition) (k i : ℕ) (n : List ℕ) (e : Tree) → TextRecursionSays text (Ok tt) → LegalText text ds →
    Defines ds k n e → (o : Option ℕ) × Means ds cs e i o
typed_results text cs ds k i n e says legal defined =
    let p = passed says refl in
    let l = lines_read p.read in
    let t = lines_right l in
    let lines : List Definition = l.first ∷ l.rest in
    let same : ds ≡ lines = unambiguous _ _ ds lines legal.reads l.legal.reads in
    let there_too : Defines lines k n e = subst (λ (es : List Definition). Defines es k n e) same defined in
    let below : k < rules p.grammar = omega (arith, defines_below there_too, lines_needed lines, rules_needed t) in
    let (o, parses) = all_results p.grammar p.none cs k i below in
    (o, subst (λ (es : List Definition). Means es cs e i o) (sym same) ((t.parses k n e there_too cs i o).0 parses))

pub text_not_looping :
    (text cs : List ℕ) (x y : Lent) (v : Verdict) (n : ℕ) (d : Config) → TextRecursionSays text (Ok tt) → Bytes cs →
    JudgeTextSays text cs (Ok (judgement v n d)) x y → v ≡ Looping → ⊥
text_not_looping text cs x y v n d says bytes told is = go told refl
  where
    go : {r : Judged} {a b : Lent} → JudgeTextSays text cs r a b → r ≡ Ok (judgement v n d) → ⊥
    go (JudgeTextSays.unread s) e = clash cc
    go (refused s h) e = clash cc
    go {r} {a} {b} (judged {gs = gs} s fine image judges) e =
        let p = passed says refl in
        let none : (recursion_refusal gs).number ≡ 0 = rw (one_grammar text gs p.grammar s p.read) p.none in
        judged_not_looping Whole gs cs a.notes b.notes a.work b.work v n d none bytes
        (subst (λ (q : Judged). JudgeSays (built Whole gs) cs q a.notes b.notes a.work b.work) e judges) is

-- A RULE WITH A NAME: its line is its own
own_line : {ds : List Definition} {k line : ℕ} → LineOfRule ds k line → k < length ds → line ≡ k
unfolding first_helper
own_line (own h) below = refl
own_line (helper h least most) below = absurd (omega arith)

-- THE LINE THAT 19 NAMES, of a text that is read
record Named (text : List ℕ) (ds : List Definition) (k o : ℕ) : Type 0 where
  line : ℕ
  of_rule : LineOfRule ds k line
  at : NameAt text ds line o
  unrefused : (later_refusal text ds).number ≡ 0

named : {text : List ℕ} {ds : List Definition} {k o : ℕ} → TextRecursionSays text (Err (Recursive k o)) → LegalText text ds → Named text ds k o
named {text} {ds} {k} {o} says legal = go says refl
  where
    go : {r : TextRecursion} → TextRecursionSays text r → r ≡ Err (Recursive k o) → Named text ds k o
    go (TextRecursionSays.unread s) e = clash cc
    go (passes s e) is = clash cc
    go (recursive {ds = es} {k = j} {line = line} {offset = a} l s e p x) is =
        let rule : j ≡ k = cc in
        let offset : a ≡ o = cc in
        let same : es ≡ ds = unambiguous _ _ es ds l.reads legal.reads in
        let r = lines_read s in
        let its : r.first ∷ r.rest ≡ ds = unambiguous _ _ _ ds r.legal.reads legal.reads in
        record {
          line = line;
          of_rule = rw (sym same, sym rule) p;
          at = rw (sym same, sym offset) x;
          unrefused = rw (sym its) r.unrefused;
        }

pub recursion_named : RecursionNamed
recursion_named text ds k o says legal below =
    let n = named says legal in
    subst (λ (m : ℕ). NameAt text ds m o) (own_line n.of_rule below) n.at

pub recursion_line : RecursionLine
recursion_line text ds k o says legal =
    let n = named says legal in
    let (helpers, are, exactly) = rules_of_lines text ds n.line n.at.name n.at.body legal n.unrefused n.at.defined in
    (n.line, n.at, helpers, are, (exactly k).0 n.of_rule)

-- WHAT A C CALLER IS TOLD: 0, 19, or the text's own number, which is neither
unread_so : {text : List ℕ} {r : TextRecursion} {f : Refusal} → TextRecursionSays text r → r ≡ Err (Refused f) → ReadSays text (Unread f)
unread_so {text} {f = f} (TextRecursionSays.unread {f = g} s) e = let same : g ≡ f = cc in subst (λ (h : Refusal). ReadSays text (Unread h)) same s
unread_so (passes s h) e = clash cc
unread_so (recursive l s h p x) e = clash cc

pub text_recursion_told : TextRecursionTold
unfolding of_text_recursion fault_reply cells
text_recursion_told text returned answer t = go t.checked t.says t.tells
  where
    only : {q r : TextRecursion} → TextRecursionSays text q → TextRecursionSays text r → q ≡ r
    only s u = text_recursion_determined text _ _ s u

    go :
        (r : TextRecursion) → TextRecursionSays text r → ReplyWritten (of_text_recursion r) returned answer →
        ((returned ≡ 0) ↔ TextRecursionSays text (Ok tt))
        × ((returned ≡ 19) ↔ TextRecursionSays text (Err (Recursive (get_or answer 0 0) (get_or answer 2 0))))
        × ((returned ≡ 0 → ⊥) → (returned ≡ 19 → ⊥) → ReadSays text (Unread (refusal returned (get_or answer 0 0))))
    go (Ok tt) s w = (
      (λ z. s, λ p. w.number),
      (λ e. absurd (omega (arith, w.number, e)), λ q. let same = only s q in clash cc),
      λ some other. absurd (some w.number),
    )
    go (Err (Refused f)) s w =
        let read = unread_so s refl in
        let place : get_or answer 0 0 ≡ f.place = ap (λ (l : List ℕ). get_or l 0 0) w.written in (
          (λ z. absurd (omega (arith, text_number read, w.number, z)), λ p. let same = only s p in clash cc),
          (λ e. absurd (omega (arith, text_number read, w.number, e)), λ q. let same = only s q in clash cc),
          λ some other. rw (w.number, place) read,
        )
    go (Err (Recursive k o)) s w =
        let place : get_or answer 0 0 ≡ k = ap (λ (l : List ℕ). get_or l 0 0) w.written in
        let count : get_or answer 2 0 ≡ o = ap (λ (l : List ℕ). get_or l 2 0) w.written in (
          (λ z. absurd (omega (arith, w.number, z)), λ p. let same = only s p in clash cc),
          (λ e. rw (place, count) s, λ q. w.number),
          λ some other. absurd (other w.number),
        )
