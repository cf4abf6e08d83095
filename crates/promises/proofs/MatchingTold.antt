-- The choice of a match: a capture accepted whole is accepted leading, by the machines and by the calls; and what a C caller is told who builds and then judges: a verdict as parsing says. Assumes nothing.
use mathlib.Core.Path.{◌≡◌, refl, sym, ap, subst, ◌∙◌}
use mathlib.Core.Bool.{cond}
use mathlib.Core.List.{List}
use mathlib.Core.Logic.{◌↔◌}
use Prim.Native.Nat.{ℕ}
use native.Mathlib.Decide.{ℕ_discrete}
use native.Mathlib.Omega.{arith}
use lib.Dec.{eqb}
use lib.ListN.{length, get_or, take, drop}
use lib.Seq.{take_at}
use Rattle.codec.specs.Bytes.{Bytes}
use Rattle.refusal.specs.declared.Refusal.{Refusal}
use Rattle.machine.specs.declared.Reply.{Reply}
use Rattle.machine.specs.declared.Verdict.{Verdict}
use Rattle.machine.specs.declared.Verdict.TheVariants.{Accepted, Ended, Stuck, Looping, Halted}
use Rattle.machine.specs.Replies.{verdict_number}
use Rattle.simulator.specs.Answers.{Judged}
use Rattle.simulator.specs.Calls.{judge_refusal, JudgeSays}
use Rattle.simulator.specs.Replies.{of_judged}
use Rattle.simulator.proofs.Answered.{judged_refused, judged_right}
use Rattle.simulator.proofs.JudgingRight.{verdict_exact}
use Rattle.grammar.specs.Grammar.{grammar_refusal}
use Rattle.builder.specs.declared.Matching.{Matching}
use Rattle.builder.specs.declared.Matching.TheVariants.{Whole, Leading}
use Rattle.builder.specs.Answers.{Built}
use Rattle.builder.specs.Matching.{default_matching}
use Rattle.builder.specs.Image.{built, built_length}
use Rattle.builder.specs.Calls.{build_refusal}
use Rattle.builder.specs.Replies.{of_built}
use Rattle.builder.proofs.Answered.{build_refused, build_answered, build_fine}
use Rattle.builder.proofs.BuiltImage.{built_length_is}
use Rattle.grammar_judge.specs.TwoCalls.{AsParsed}
use Rattle.grammar_judge.proofs.TwoCallsHold.{accepts_exact, gets}
use Rattle.sejimakpu.specs.Cells.{cells, ReplyWritten}
use Rattle.sejimakpu.specs.Calls.{JudgeTells, BuildTells}
use Rattle.promises.specs.Matching.{DefaultLeading, WholeThenLeading, JudgedWholeLeading, BuiltAcceptedTold}

pub default_leading : DefaultLeading
unfolding default_matching
default_leading = refl

-- WHOLE, THEN LEADING
pub whole_then_leading : WholeThenLeading
whole_then_leading gs cs good bytes accepted =
    (accepts_exact Leading gs cs good bytes).1 (length cs, (accepts_exact Whole gs cs good bytes).0 accepted)

pub judged_whole_leading : JudgedWholeLeading
judged_whole_leading gs cs a a_now b b_now x x_now y y_now v n m d e good bytes whole leading =
    let said = (verdict_exact (built Whole gs) cs a a_now b b_now Accepted n d bytes whole Accepted d).1 (refl, refl) in
    let (f, also) = whole_then_leading gs cs good bytes (d, said) in
    sym ((verdict_exact (built Leading gs) cs x x_now y y_now v m e bytes leading Accepted f).0 also).0

-- A VERDICT BY ITS NUMBER
of_number : ℕ → Verdict
of_number n = cond (eqb n 1) Accepted (cond (eqb n 2) Ended (cond (eqb n 3) Stuck (cond (eqb n 4) Looping Halted)))

of_its_number : (v : Verdict) → of_number (verdict_number v) ≡ v
unfolding verdict_number of_number
of_its_number Accepted = refl
of_its_number Ended = refl
of_its_number Stuck = refl
of_its_number Looping = refl
of_its_number Halted = refl

one_number : (v w : Verdict) → verdict_number v ≡ verdict_number w → v ≡ w
one_number v w e = sym (of_its_number v) ∙ ap of_number e ∙ of_its_number w

some_verdict : (v : Verdict) → 0 ≡ verdict_number v → ⊥
unfolding verdict_number
some_verdict Accepted e = omega arith
some_verdict Ended e = omega arith
some_verdict Stuck e = omega arith
some_verdict Looping e = omega arith
some_verdict Halted e = omega arith

-- a refusal tells none
pub refused_says : (v : Verdict) {n : ℕ} {P : Type 0} → (n ≡ 0 → ⊥) → (0 ≡ verdict_number v) ↔ ((n ≡ 0) × P)
refused_says v some = (λ e. absurd (some_verdict v e), λ (none, p). absurd (some none))

-- a call of judging by a built image tells a verdict's number exactly if it returns 0 and parsing says so
module _
    (how : Matching) (gs cs a a_now b b_now : List ℕ) (r : Judged) (v : Verdict) (good : (grammar_refusal gs).number ≡ 0) (bytes : Bytes cs)
    (says : JudgeSays (built how gs) cs r a a_now b b_now)
  where
    refusal_of : Refusal
    refusal_of = judge_refusal (built how gs) cs (length a) (length b)

    answer_parsed : refusal_of.number ≡ 0 → ((of_judged r).verdict ≡ verdict_number v) ↔ (((of_judged r).refusal ≡ 0) × AsParsed how gs cs v)
    unfolding of_judged refusal_of
    answer_parsed fine =
        let g = gets how gs cs a a_now b b_now r good bytes (judged_right (built how gs) cs r a a_now b b_now fine says) in
        rw g.answers (
          λ e. (refl, subst (AsParsed how gs cs) (one_number g.verdict v e) g.parsed),
          λ (none, p). ap verdict_number (sym (g.only v p)),
        )

    refused_parsed :
        (refusal_of.number ≡ 0 → ⊥) → ((of_judged r).verdict ≡ verdict_number v) ↔ (((of_judged r).refusal ≡ 0) × AsParsed how gs cs v)
    unfolding of_judged refusal_of
    refused_parsed some =
        rw (judged_refused (built how gs) cs r a a_now b b_now some says).0 (refused_says v some)

    pub verdict_parsed : ((of_judged r).verdict ≡ verdict_number v) ↔ (((of_judged r).refusal ≡ 0) × AsParsed how gs cs v)
    verdict_parsed = go (ℕ_discrete refusal_of.number 0)
      where
        go : Dec (refusal_of.number ≡ 0) → ((of_judged r).verdict ≡ verdict_number v) ↔ (((of_judged r).refusal ≡ 0) × AsParsed how gs cs v)
        go (yes fine) = answer_parsed fine
        go (no some) = refused_parsed some

-- A CALL OF BUILDING THAT RETURNS 0 has built the image, and counts its bytes
pub record BuiltThere (how : Matching) (grammar image_now counted : List ℕ) : Type 0 where
  pub good : (grammar_refusal grammar).number ≡ 0
  pub there : take (get_or counted 2 0) image_now ≡ built how grammar

pub built_there :
    {how : Matching} {grammar image image_now counted : List ℕ} → BuildTells how grammar image image_now 0 counted →
    BuiltThere how grammar image_now counted
unfolding of_built cells
built_there {how} {grammar} {image} {image_now} {counted} t = go (ℕ_discrete (build_refusal grammar (length image)).number 0)
  where
    go : Dec ((build_refusal grammar (length image)).number ≡ 0) → BuiltThere how grammar image_now counted
    go (no some) =
        let refused = ap (λ (r : Built). (of_built r).refusal) (build_refused how grammar t.built image image_now some t.says).0 in
        absurd (some (sym (t.tells.number ∙ refused)))
    go (yes none) =
        let (is, bytes) = build_answered how grammar t.built image image_now none t.says in
        let count : get_or counted 2 0 ≡ built_length grammar =
        ap (λ (l : List ℕ). get_or l 2 0) t.tells.written ∙ ap (λ (r : Built). (of_built r).count) is
        in
        record {
          good = (build_fine grammar (length image) none).0;
          there =
              ap (λ (n : ℕ). take n image_now) count ∙ ap (take (built_length grammar)) bytes
              ∙ take_at (built how grammar) (drop (built_length grammar) image) (built_length grammar) (built_length_is how grammar);
        }

-- A C CALLER'S ANSWER: the number returned and the verdict's cell are the reply's
pub told_by :
    {p : Reply} {m returned : ℕ} {answer : List ℕ} {P : Type 0} → ReplyWritten p returned answer → (p.verdict ≡ m) ↔ ((p.refusal ≡ 0) × P) →
    (get_or answer 1 0 ≡ m) ↔ ((returned ≡ 0) × P)
unfolding cells
told_by w exact =
    let cell = ap (λ (l : List ℕ). get_or l 1 0) w.written in (
      λ e. let (none, p) = exact.0 (sym cell ∙ e) in (w.number ∙ none, p),
      λ (none, p). cell ∙ exact.1 (sym w.number ∙ none, p),
    )

-- judging by it tells a verdict exactly as parsing says
pub told_parsed :
    {how : Matching} {grammar capture image_now notes notes_now work work_now : List ℕ} {returned : ℕ} {counted answer : List ℕ} (v : Verdict) →
    Bytes capture → BuiltThere how grammar image_now counted →
    JudgeTells (take (get_or counted 2 0) image_now) capture notes notes_now work work_now returned answer →
    (get_or answer 1 0 ≡ verdict_number v) ↔ ((returned ≡ 0) × AsParsed how grammar capture v)
told_parsed {how} {grammar} {capture} {notes = a} {notes_now = a_now} {work = b} {work_now = b_now} v bytes at t =
    let says = subst (λ (bs : List ℕ). JudgeSays bs capture t.judged a a_now b b_now) at.there t.says in
    told_by t.tells (verdict_parsed how grammar capture a a_now b b_now t.judged v at.good bytes says)

pub built_accepted_told : BuiltAcceptedTold
unfolding default_matching verdict_number
built_accepted_told grammar capture image image_now notes notes_now work work_now returned counted answer bytes judged one =
    (λ t. ((told_parsed Accepted bytes (built_there t) judged).0 one).1, λ t. ((told_parsed Accepted bytes (built_there t) judged).0 one).1)
