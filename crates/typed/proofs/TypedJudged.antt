-- A capture judged by a text is judged as the typed grammar says, on its first line's tree. Assumes nothing.
use mathlib.Core.Path.{◌≡◌, subst}
use mathlib.Core.List.{List, ◌∷◌}
use mathlib.Core.Logic.{◌↔◌}
use mathlib.Core.Option.{Option, some}
use Prim.Native.Nat.{ℕ, ◌+◌, ◌*◌, ◌≤◌}
use lib.ListN.{length}
use Rattle.codec.specs.Bytes.{Bytes}
use Rattle.machine.specs.declared.Config.{Config}
use Rattle.machine.specs.declared.Verdict.{Verdict}
use Rattle.machine.specs.declared.Verdict.TheVariants.{Accepted, Ended, Stuck, Looping, Halted}
use Rattle.machine.specs.Verdicts.{Says}
use Rattle.image.specs.Format
use Rattle.image.specs.Image.{machine}
use Rattle.simulator.specs.Answers.{Judged}
use Rattle.simulator.specs.Calls.{JudgedRight}
use Rattle.simulator.proofs.Answered.{judged_right}
use Rattle.grammar.specs.Grammar.{expression}
use Rattle.grammar.specs.Parsing.{Parses}
use Rattle.builder.specs.declared.Matching.{Matching}
use Rattle.builder.specs.declared.Matching.TheVariants.{Whole, Leading}
use Rattle.builder.specs.Image.{built}
use Rattle.syntax.specs.Trees.{Definition, here, LegalText}
use Rattle.syntax_theory.specs.Meaning.{Means}
use Rattle.syntax.specs.Needs.{later_refusal}
use Rattle.syntax.specs.Compile.{grammar_of}
use Rattle.syntax_theory.specs.RuleOf.{TypedRight}
use Rattle.syntax_theory.proofs.TypedRight.{typed_right}
use Rattle.grammar_judge.specs.Calls.{Lent, lent_refusal}
use Rattle.grammar_judge.specs.TwoCalls.{AsParsed, Gets}
use Rattle.grammar_judge.proofs.Refusing.{parts_fine}
use Rattle.grammar_judge.proofs.TwoCallsHold.{accepts_exact, sticks_exact, loops_exact, gets, enough_unrefused}
use Rattle.typed.specs.Calls.{JudgeTextSays}
use Rattle.typed.specs.TypedCalls.{AsTyped, TypedGets, EnoughLent}
use Rattle.typed.proofs.ReadRight.{LinesRead, lines_read, lines_right, rules_needed}
use Rattle.typed.proofs.Determined.{GrammarJudged, judge_read}

-- THE FIRST LINE, and rule 0
module _ {d : Definition} {ds : List Definition} {gs : List ℕ} (t : TypedRight (d ∷ ds) gs) (cs : List ℕ) where
  means : {o : Option ℕ} → Parses (expression gs) cs 0 0 o → Means (d ∷ ds) cs d.body 0 o
  means {o} p = (t.parses 0 d.letters d.body here cs 0 o).0 p

  parses : {o : Option ℕ} → Means (d ∷ ds) cs d.body 0 o → Parses (expression gs) cs 0 0 o
  parses {o} m = (t.parses 0 d.letters d.body here cs 0 o).1 m

  pub typed_as : (how : Matching) (v : Verdict) → AsParsed how gs cs v → AsTyped how d ds cs v
  typed_as Whole Accepted p = means p
  typed_as Leading Accepted (j, p) = (j, means p)
  typed_as how Ended p = p
  typed_as Whole Stuck (o, p, other) = (o, means p, other)
  typed_as Leading Stuck p = means p
  typed_as how Looping p = λ o m. p o (parses m)
  typed_as how Halted p = p

  pub parsed_as : (how : Matching) (v : Verdict) → AsTyped how d ds cs v → AsParsed how gs cs v
  parsed_as Whole Accepted m = parses m
  parsed_as Leading Accepted (j, m) = (j, parses m)
  parsed_as how Ended m = m
  parsed_as Whole Stuck (o, m, other) = (o, parses m, other)
  parsed_as Leading Stuck m = parses m
  parsed_as how Looping m = λ o p. m o (means p)
  parsed_as how Halted m = m

-- THE MACHINE OF A LEGAL TEXT, judged whole
module _
    (text cs : List ℕ) (d : Definition) (ds : List Definition) (bytes : Bytes cs) (legal : LegalText text (d ∷ ds))
    (unrefused : (later_refusal text (d ∷ ds)).number ≡ 0)
  where
    right : TypedRight (d ∷ ds) (grammar_of (d ∷ ds))
    right = typed_right text (d ∷ ds) legal unrefused

    pub typed_accepts :
        ((c : Config) × Says (machine (built Whole (grammar_of (d ∷ ds))) cs) Accepted c) ↔ Means (d ∷ ds) cs d.body 0 (some (length cs))
    typed_accepts =
        let exact = accepts_exact Whole (grammar_of (d ∷ ds)) cs right.good bytes in
        (λ s. typed_as right cs Whole Accepted (exact.0 s), λ m. exact.1 (parsed_as right cs Whole Accepted m))

    pub typed_stuck :
        ((c : Config) × Says (machine (built Whole (grammar_of (d ∷ ds))) cs) Stuck c)
        ↔ ((o : Option ℕ) × Means (d ∷ ds) cs d.body 0 o × (o ≡ some (length cs) → ⊥))
    typed_stuck =
        let exact = sticks_exact Whole (grammar_of (d ∷ ds)) cs right.good bytes in
        (λ s. typed_as right cs Whole Stuck (exact.0 s), λ m. exact.1 (parsed_as right cs Whole Stuck m))

    pub typed_loops :
        length cs ≤ Format.max_capture →
        ((c : Config) × Says (machine (built Whole (grammar_of (d ∷ ds))) cs) Looping c) ↔ ((o : Option ℕ) → Means (d ∷ ds) cs d.body 0 o → ⊥)
    typed_loops short =
        let exact = loops_exact Whole (grammar_of (d ∷ ds)) cs right.good bytes short in
        (λ s. typed_as right cs Whole Looping (exact.0 s), λ none_meant. exact.1 (parsed_as right cs Whole Looping none_meant))

-- THE CALL
typed_gets : {text gs cs : List ℕ} {r : Judged} → LinesRead text gs → Gets Whole gs cs r → TypedGets text cs r
typed_gets {cs = cs} l g =
    let t = lines_right l in
    record {
      first = l.first;
      rest = l.rest;
      legal = l.legal;
      verdict = g.verdict;
      readings = g.readings;
      end = g.end;
      answers = g.answers;
      meant = typed_as t cs Whole g.verdict g.parsed;
      only = λ v m. g.only v (parsed_as t cs Whole v m);
      few = subst (λ (n : ℕ). g.readings ≤ 6 * n * (length cs + 1) + 2) (rules_needed t) g.few;
    }

pub typed_judged : (text cs : List ℕ) (r : Judged) (x y : Lent) → EnoughLent text cs x → JudgeTextSays text cs r x y → TypedGets text cs r
typed_judged text cs r x y e s = typed_gets l (gets Whole gs cs x.notes y.notes x.work y.work r right.good e.bytes answer)
  where
    gs : List ℕ
    gs = e.grammar

    l : LinesRead text gs
    l = lines_read e.read

    right : TypedRight (l.first ∷ l.rest) gs
    right = lines_right l

    unrefused : (lent_refusal gs cs x).number ≡ 0
    unrefused =
        enough_unrefused gs cs x.image x.notes x.work
        (record {
          good = right.good;
          bytes = e.bytes;
          short = e.short;
          image_room = e.image_room;
          notes_room = e.notes_room;
          work_room = e.work_room;
        })

    g : GrammarJudged gs cs r x y
    g = judge_read gs e.read unrefused s

    answer : JudgedRight (built Whole gs) cs r x.notes y.notes x.work y.work
    answer = judged_right (built Whole gs) cs r x.notes y.notes x.work y.work (parts_fine gs cs _ _ _ unrefused).1 g.judges
