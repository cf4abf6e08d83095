-- Building, by either choice of a match, and then judging gives what parsing says, with few readings. Assumes nothing.
use Rattle.std.specs.Prelude.{Ok}
use mathlib.Core.Path.{◌≡◌, refl, sym, subst, ◌∙◌, ap}
use mathlib.Core.List.{List, ◌++◌}
use mathlib.Core.Logic.{◌↔◌, ◌⊎◌, ⊎_elim, inl, inr}
use mathlib.Core.Option.{Option, none, some}
use Prim.Native.Nat.{ℕ, ◌≤◌}
use native.Mathlib.Omega.{arith}
use lib.ListN.{length, take, drop}
use lib.Seq.{take_at}
use borrow.Author.Tests.{le-ltb, eq-eqb}
use Rattle.machine.specs.declared.Config.{Config}
use Rattle.refusal.specs.declared.Refusal.{Refusal}
use Rattle.machine.specs.declared.Verdict.{Verdict}
use Rattle.machine.specs.declared.Verdict.TheVariants.{Accepted, Ended, Stuck, Looping, Halted}
use Rattle.image.specs.Format
use Rattle.codec.specs.Bytes.{Bytes}
use Rattle.machine.specs.Run.{how_many}
use Rattle.image.specs.Image.{machine}
use Rattle.machine.specs.Verdicts.{GoesOn, Says, Noted, nonzero}
use Rattle.refusal.specs.First.{or_else, refuse_if}
use Rattle.image.specs.Refusals.{image_refusal}
use Rattle.machine.proofs.Terminates.{says_looping}
use Rattle.machine.proofs.OneVerdict.{one_verdict, goes_on_loops}
use Rattle.simulator.specs.Answers.{Judged}
use Rattle.simulator.specs.Calls.{judge_refusal, JudgedRight, JudgeSays}
use Rattle.simulator.proofs.Answered.{judged_right}
use Rattle.simulator.proofs.JudgingRight.{verdict_there}
use Rattle.simulator.proofs.JudgeRefusals.{not_refused}
use Rattle.image.proofs.CaptureRefused.{then_fine}
use Rattle.builder.specs.declared.Matching.{Matching}
use Rattle.builder.specs.declared.Matching.TheVariants.{Whole, Leading}
use Rattle.builder.specs.Answers.{Built}
use Rattle.grammar.specs.Grammar.{rules, expression, grammar_refusal}
use Rattle.grammar.specs.Parsing.{Rules, Parses}
use Rattle.builder.specs.Image.{built, built_length}
use Rattle.builder.specs.Calls.{build_refusal, BuildSays}
use Rattle.builder.proofs.BuiltImage.{built_length_is}
use Rattle.builder.proofs.Answered.{build_answered}
use Rattle.builder.proofs.BuiltGood.{built_good}
use Rattle.parsing_theory.proofs.Parsed.{Passes, ParsesRight}
use Rattle.parsing_theory.proofs.BuiltParses.{built_parses, few_readings, few_readings_leading}
use Rattle.grammar_judge.specs.Calls.{lent, parts_refusal, lent_refusal}
use Rattle.grammar_judge.specs.TwoCalls.{AsParsed, most_readings, Gets, Enough}

-- a result that passes by a leading match is a success, and one that does not is failure
success : {E : Rules} {cs : List ℕ} (o : Option ℕ) → Parses E cs 0 0 o → Passes Leading (length cs) o → (j : ℕ) × Parses E cs 0 0 (some j)
success none p e = let z : ◌≡◌ {A = ℕ} 0 1 = cc in absurd (omega arith)
success (some j) p e = (j, p)

failure : {E : Rules} {cs : List ℕ} (o : Option ℕ) → Parses E cs 0 0 o → (Passes Leading (length cs) o → ⊥) → Parses E cs 0 0 none
failure none p other = p
failure (some j) p other = absurd (other refl)

no_success : (n : ℕ) → Passes Leading n none → ⊥
no_success n e = let z : ◌≡◌ {A = ℕ} 0 1 = cc in omega arith

-- the verdict of a grammar's machine is as parsing says
parsed_as :
    (how : Matching) (gs cs : List ℕ) → ParsesRight how (machine (built how gs) cs) (expression gs) cs → (v : Verdict) (d : Config) →
    Says (machine (built how gs) cs) v d → AsParsed how gs cs v
parsed_as Whole gs cs b Accepted d s = let (o, p, e) = b.accepted_parses d s in rw e at p
parsed_as Leading gs cs b Accepted d s = let (o, p, e) = b.accepted_parses d s in success o p e
parsed_as how gs cs b Ended d s = b.never_ended d s
parsed_as Whole gs cs b Stuck d s = b.stuck_parses d s
parsed_as Leading gs cs b Stuck d s = let (o, p, other) = b.stuck_parses d s in failure o p other
parsed_as how gs cs b Looping d s = λ o p. b.parses_terminates o p (says_looping s).0
parsed_as how gs cs b Halted d s = b.never_halted d s

-- a verdict that parsing asks for is there, and but for looping there is a result
result_of : (how : Matching) (gs cs : List ℕ) (v : Verdict) → AsParsed how gs cs v → (v ≡ Looping) ⊎ ((o : Option ℕ) × Parses (expression gs) cs 0 0 o)
result_of Whole gs cs Accepted p = inr (some (length cs), p)
result_of Leading gs cs Accepted p = inr (some p.0, p.1)
result_of how gs cs Ended p = absurd p
result_of Whole gs cs Stuck p = inr (p.0, p.1)
result_of Leading gs cs Stuck p = inr (none, p)
result_of how gs cs Looping p = inl refl
result_of how gs cs Halted p = absurd p

module _ (gs cs : List ℕ) where
  accepted_there :
      (how : Matching) → ParsesRight how (machine (built how gs) cs) (expression gs) cs → AsParsed how gs cs Accepted →
      (d : Config) × Says (machine (built how gs) cs) Accepted d
  accepted_there Whole b p = b.parses_accepted (some (length cs)) p refl
  accepted_there Leading b p = b.parses_accepted (some p.0) p.1 refl

  stuck_there :
      (how : Matching) → ParsesRight how (machine (built how gs) cs) (expression gs) cs → AsParsed how gs cs Stuck →
      (d : Config) × Says (machine (built how gs) cs) Stuck d
  stuck_there Whole b p = b.parses_stuck p.0 p.1 p.2
  stuck_there Leading b p = b.parses_stuck none p (no_success (length cs))

-- and no other verdict is
module _
    (how : Matching) (gs cs : List ℕ) (b : ParsesRight how (machine (built how gs) cs) (expression gs) cs) (v : Verdict) (d : Config)
    (s : Says (machine (built how gs) cs) v d)
  where
    same_as : (w : Verdict) → (e : Config) × Says (machine (built how gs) cs) w e → w ≡ v
    same_as w (e, t) = (one_verdict (machine (built how gs) cs) w v e d t s).0

    only_as : (w : Verdict) → AsParsed how gs cs w → w ≡ v
    only_as Accepted p = same_as Accepted (accepted_there gs cs how b p)
    only_as Ended p = absurd p
    only_as Stuck p = same_as Stuck (stuck_there gs cs how b p)
    only_as Looping p = ⊎_elim (λ is. sym is) (λ (o, q). absurd (p o q)) (result_of how gs cs v (parsed_as how gs cs b v d s))
    only_as Halted p = absurd p

-- ACCEPTED AND STUCK, exactly where parsing says so
module _ (how : Matching) (gs cs : List ℕ) (good : (grammar_refusal gs).number ≡ 0) (bytes : Bytes cs) where
  pub accepts_exact : ((d : Config) × Says (machine (built how gs) cs) Accepted d) ↔ AsParsed how gs cs Accepted
  accepts_exact = let b = built_parses how gs cs good bytes in (λ (d, s). parsed_as how gs cs b Accepted d s, accepted_there gs cs how b)

  pub sticks_exact : ((d : Config) × Says (machine (built how gs) cs) Stuck d) ↔ AsParsed how gs cs Stuck
  sticks_exact = let b = built_parses how gs cs good bytes in (λ (d, s). parsed_as how gs cs b Stuck d s, stuck_there gs cs how b)

-- looping, exactly where parsing has no result
pub loops_exact :
    (how : Matching) (gs cs : List ℕ) → (grammar_refusal gs).number ≡ 0 → Bytes cs → length cs ≤ Format.max_capture →
    ((d : Config) × Says (machine (built how gs) cs) Looping d) ↔ ((o : Option ℕ) → Parses (expression gs) cs 0 0 o → ⊥)
loops_exact how gs cs good bytes short =
    (λ (d, s) o p. b.parses_terminates o p (says_looping s).0, λ none_parses. loops (b.no_parse_goes_on none_parses))
  where
    b : ParsesRight how (machine (built how gs) cs) (expression gs) cs
    b = built_parses how gs cs good bytes

    loops : GoesOn (machine (built how gs) cs) → (d : Config) × Says (machine (built how gs) cs) Looping d
    loops on =
        let (v, d, s) = verdict_there (built how gs) cs (record { good = built_good how gs good; short = short; bytes = bytes }) in
        (d, subst (λ (w : Verdict). Says (machine (built how gs) cs) w d) (goes_on_loops (machine (built how gs) cs) v d s on) s)

-- few readings, by either choice
few : (how : Matching) (gs cs notes : List ℕ) → (grammar_refusal gs).number ≡ 0 → Bytes cs → Noted (machine (built how gs) cs) notes →
    nonzero (how_many (machine (built how gs) cs)) notes ≤ most_readings how (rules gs) (length cs)
few Whole = few_readings
few Leading = few_readings_leading

pub gets :
    (how : Matching) (gs cs notes notes_now work work_now : List ℕ) (r : Judged) → (grammar_refusal gs).number ≡ 0 → Bytes cs →
    JudgedRight (built how gs) cs r notes notes_now work work_now → Gets how gs cs r
gets how gs cs notes notes_now work work_now r good bytes j =
    let b = built_parses how gs cs good bytes in
    record {
      verdict = j.judgement.verdict;
      readings = j.judgement.readings;
      end = j.judgement.end;
      answers = j.answers;
      parsed = parsed_as how gs cs b j.judgement.verdict j.judgement.end j.right.says;
      only = only_as how gs cs b j.judgement.verdict j.judgement.end j.right.says;
      few = rw j.right.counted (few how gs cs j.notes good bytes j.right.noted);
    }

-- with enough room neither call refuses
build_fine : (gs : List ℕ) (n : ℕ) → (grammar_refusal gs).number ≡ 0 → built_length gs ≤ n → (build_refusal gs n).number ≡ 0
unfolding build_refusal or_else refuse_if
build_fine gs n good room = rw (eq-eqb (grammar_refusal gs).number 0 good, le-ltb n (built_length gs) room)

module _ (how : Matching) (gs cs image notes work : List ℕ) (e : Enough how gs cs image notes work) where
  judge_fine : (judge_refusal (built how gs) cs (length notes) (length work)).number ≡ 0
  judge_fine =
      let capture = sym (then_fine (built how gs) (length cs) (image_refusal (built how gs)) refl (built_good how gs e.good) e.short) in
      ap (λ (f : Refusal). f.number)
      (not_refused (built how gs) cs (length notes) (length work) (ap (λ (f : Refusal). f.number) capture) e.notes_room e.work_room)

-- the calls that say whole
pub enough_unrefused : (gs cs image notes work : List ℕ) → Enough Whole gs cs image notes work → (lent_refusal gs cs (lent image notes work)).number ≡ 0
unfolding parts_refusal or_else
enough_unrefused gs cs image notes work e =
    rw (eq-eqb _ _ (build_fine gs (length image) e.good e.image_room)) (judge_fine Whole gs cs image notes work e)

pub build_then_judge :
    (how : Matching) (gs cs image image_now notes notes_now work work_now : List ℕ) (b : Built) (r : Judged) → Enough how gs cs image notes work →
    BuildSays how gs b image image_now → JudgeSays (take (built_length gs) image_now) cs r notes notes_now work work_now →
    (b ≡ Ok (built_length gs)) × Gets how gs cs r
build_then_judge how gs cs image image_now notes notes_now work work_now b r e built_says judge_says =
    (image_built.0, gets how gs cs notes notes_now work work_now r e.good e.bytes right)
  where
    image_built : (b ≡ Ok (built_length gs)) × (image_now ≡ built how gs ++ drop (built_length gs) image)
    image_built = build_answered how gs b image image_now (build_fine gs (length image) e.good e.image_room) built_says

    same : take (built_length gs) image_now ≡ built how gs
    same =
        ap (take (built_length gs)) image_built.1 ∙ take_at (built how gs) (drop (built_length gs) image) (built_length gs) (built_length_is how gs)

    says : JudgeSays (built how gs) cs r notes notes_now work work_now
    says = subst (λ (bs : List ℕ). JudgeSays bs cs r notes notes_now work work_now) same judge_says

    right : JudgedRight (built how gs) cs r notes notes_now work work_now
    right = judged_right (built how gs) cs r notes notes_now work work_now (judge_fine how gs cs image notes work e) says
