-- What the calls answer, by the numbers of their answers. Assumes nothing.
use Rattle.std.specs.Prelude.{Err, Ok}
use mathlib.Core.Path.{◌≡◌, refl, sym, ap, subst, ◌∙◌}
use mathlib.Core.List.{List, []}
use Prim.Native.Nat.{ℕ, ◌+◌, ◌*◌, ◌<◌}
use native.Mathlib.Decide.{ℕ_discrete}
use native.Mathlib.Omega.{arith}
use lib.ListN.{length, get_or, drop}
use lib.Seq.{get_or-take, get_or-drop}
use Rattle.machine.specs.declared.Verdict.{Verdict}
use Rattle.machine.specs.declared.Verdict.TheVariants.{Accepted, Ended, Stuck, Looping, Halted}
use Rattle.machine.specs.Run.{Machine, start}
use Rattle.image.specs.Image.{machine}
use Rattle.machine.specs.Verdicts.{Says}
use Rattle.machine.specs.Replies.{verdict_number}
use Rattle.simulator.specs.declared.Judgement.{Judgement}
use Rattle.simulator.specs.Answers.{Judged}
use Rattle.simulator.specs.Calls.{JudgeSays}
use Rattle.simulator.specs.Replies.{of_judged}
use Rattle.simulator.proofs.Answered.{judged_refused, judged_right, answered_fine}
use Rattle.codec.specs.Bytes.{section}
use Rattle.machine.specs.declared.Reply.{Reply}
use Rattle.bundle.specs.Answers.{Report}
use Rattle.bundle.specs.Format.{count, capture, call_refusal}
use Rattle.bundle.specs.Report.{line_width, line_cells, verdict_cell}
use Rattle.bundle.specs.Calls.{BundleSays}
use Rattle.bundle.specs.Replies.{of_report}
use Rattle.bundle.proofs.LineAlone.{line_there}
use Rattle.bundle.proofs.Reporting.{bundle_refuses, bundle_answers}
use Rattle.interpreter.specs.PlainRun.{run_on}
use Rattle.interpreter.specs.Replies.{of_ran}
use Rattle.interpreter.proofs.Answered.{run_refused, run_answered, run_holds}
use Rattle.builder.specs.Replies.{of_built}
use Rattle.builder.proofs.Answered.{build_refused}
use Rattle.answer_line.specs.Line.{Lined}
use Rattle.answer.specs.Calls.{AnswerSays}
use Rattle.answer.proofs.Answered.{input_refused}
use Rattle.typed.proofs.Determined.{build_text_refused, judge_text_refused}
use Rattle.sejimakpu.specs.Cells.{cells}
use Rattle.promises.specs.FirstDemand.{JudgeRefuses, RunRefuses, BuildRefuses, AnswerRefuses}
use Rattle.promises.specs.SecondDemand.{JudgeAnswers, RunAnswers}
use Rattle.promises.specs.Users.{AcceptedTold}
use Rattle.promises.specs.Typed.{BuildTextRefuses, JudgeTextRefuses}
use Rattle.promises.specs.Bundles.{LineAccepted}

pub judge_refuses : JudgeRefuses
unfolding of_judged
judge_refuses bs cs r a a_now b b_now says some =
    let (told, notes, work) = judged_refused bs cs r a a_now b b_now some says in
    (ap of_judged told, notes, work)

pub run_refuses : RunRefuses
unfolding of_ran
run_refuses bs cs n r a a_now says some = let (told, cells) = run_refused bs cs n r a a_now some says in (ap of_ran told, cells)

pub build_refuses : BuildRefuses
unfolding of_built
build_refuses how gs r a a_now says some = let (told, bytes) = build_refused how gs r a a_now some says in (ap of_built told, bytes)

pub answer_refuses : AnswerRefuses
unfolding AnswerSays
answer_refuses xs x y out out_now n says some =
    let r = input_refused xs x y says.line some says.right in
    (r.kept, subst (λ (l : List ℕ). Lined l out out_now n) r.says says.lined)

pub build_text_refuses : BuildTextRefuses
unfolding of_built
build_text_refuses text r a a_now f says some =
    let (told, bytes) = build_text_refused text r a a_now f says some in
    (ap of_built told, bytes)

pub judge_text_refuses : JudgeTextRefuses
unfolding of_judged
judge_text_refuses text cs r x y f says some =
    let (told, left) = judge_text_refused text cs r x y f says some in
    (ap of_judged told, left)

pub judge_answers : JudgeAnswers
unfolding of_judged
judge_answers bs cs r a a_now b b_now no_refusal says =
    let x = judged_right bs cs r a a_now b b_now no_refusal says in
    let j = x.judgement in
    (j.verdict, j.readings, j.end, x.answers, ap of_judged x.answers)

pub run_answers : RunAnswers
unfolding of_ran
run_answers bs cs n r a a_now no_refusal says =
    let (told, cells) = run_answered bs cs n r a a_now no_refusal says in
    (run_on n (machine bs cs) 0 (length a) start, ap of_ran told, run_holds bs cs n (length a) no_refusal, cells)

-- the verdict's cell of a C caller's answer
only_accepted : (v : Verdict) → verdict_number v ≡ 1 → v ≡ Accepted
unfolding verdict_number
only_accepted Accepted e = refl
only_accepted Ended e = absurd (omega arith)
only_accepted Stuck e = absurd (omega arith)
only_accepted Looping e = absurd (omega arith)
only_accepted Halted e = absurd (omega arith)

accepted_by :
    (bs cs notes notes_now work work_now : List ℕ) (r : Judged) → JudgeSays bs cs r notes notes_now work work_now →
    (of_judged r).verdict ≡ 1 → ((of_judged r).refusal ≡ 0) × Says (machine bs cs) Accepted (of_judged r).end
unfolding of_judged
accepted_by bs cs notes notes_now work work_now (Err f) says e = absurd (omega arith)
accepted_by bs cs notes notes_now work work_now (Ok j) says e =
    let no_refusal = answered_fine bs cs notes notes_now work work_now j.verdict j.readings j.end says in
    let right = judged_right bs cs (Ok j) notes notes_now work work_now no_refusal says in
    (refl, accepted_said (machine bs cs) j right.judgement (only_accepted j.verdict e) right.answers right.right.says)
  where
    accepted_said :
        (M : Machine) (j k : Judgement) → j.verdict ≡ Accepted → ◌≡◌ {A = Judged} (Ok j) (Ok k) → Says M k.verdict k.end →
        Says M Accepted j.end
    accepted_said M j k p q s =
        let same : k ≡ j = cc in
        subst (λ (v : Verdict). Says M v j.end) p (subst (λ (x : Judgement). Says M x.verdict x.end) same s)

pub accepted_told : AcceptedTold
unfolding cells
accepted_told image capture notes notes_now work work_now returned answer t one =
    let verdict : (of_judged t.judged).verdict ≡ 1 = ap (λ (l : List ℕ). get_or l 1 0) (sym t.tells.written) ∙ one in
    let (no_refusal, says) = accepted_by image capture notes notes_now work work_now t.judged t.says verdict in
    (t.tells.number ∙ no_refusal, rw t.tells.written says)

-- a line's cell is that of the line's own seven
cell_of : (m : List ℕ) (i k : ℕ) → k < line_width → get_or (section m (line_width * i) line_width) k 0 ≡ get_or m (line_width * i + k) 0
cell_of m i k h = get_or-take line_width (drop (line_width * i) m) k 0 h ∙ get_or-drop (line_width * i) m k 0

-- a bundle's call that returns 0 is not refused, and its count is that of the captures
returned_fine :
    (bs xs : List ℕ) (r : Report) (l m a x b y : List ℕ) → BundleSays bs xs r l m a x b y → (of_report r).refusal ≡ 0 →
    (call_refusal bs xs).number ≡ 0
returned_fine bs xs r l m a x b y says none = go (ℕ_discrete (call_refusal bs xs).number 0)
  where
    go : Dec ((call_refusal bs xs).number ≡ 0) → (call_refusal bs xs).number ≡ 0
    go (yes e) = e
    go (no some) =
        let told = (bundle_refuses bs xs r l m a x b y [] says some).0 in
        absurd (some (sym (ap (λ (p : Reply). p.refusal) told) ∙ none))

pub line_accepted : LineAccepted
unfolding cells line_cells
line_accepted image bundle lines lines_now totals totals_now notes notes_now work work_now returned answer t zero_returned i h one =
    let none : (of_report t.report).refusal ≡ 0 = sym t.tells.number ∙ zero_returned in
    let fine = returned_fine image bundle t.report lines lines_now notes notes_now work work_now t.says none in
    let told = (bundle_answers image bundle t.report lines lines_now notes notes_now work work_now t.says fine).0 in
    let counted : get_or answer 2 0 ≡ count bundle =
    ap (λ (l : List ℕ). get_or l 2 0) t.tells.written ∙ ap (λ (p : Reply). p.count) told
    in
    let line = line_there image bundle t.report lines lines_now notes notes_now work work_now t.says fine i (omega (arith, counted, h)) in
    let cell : (k : ℕ) → k < line_width → get_or lines_now (line_width * i + k) 0 ≡ get_or (line_cells (of_judged line.line)) k 0 =
    λ k b. sym (cell_of lines_now i k b) ∙ ap (λ (l : List ℕ). get_or l k 0) line.cells
    in
    let verdict : (of_judged line.line).verdict ≡ 1 = sym (cell verdict_cell (omega arith)) ∙ one in
    let (no_refusal, says) =
    accepted_by image (capture bundle i) line.notes line.notes_then line.work line.work_then line.line line.says verdict
    in
    rw (cell 4 (omega arith), cell 5 (omega arith), cell 6 (omega arith)) says
