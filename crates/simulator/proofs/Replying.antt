-- What is told of judging and of the cells that it needs, case by case, is the definition's reply. Assumes nothing.
use mathlib.Core.Path.{◌≡◌, refl}
use Rattle.machine.specs.declared.Reply.{Reply}
use Rattle.machine.specs.Replies.{verdict_number, refusal_reply, answer_reply, count_reply, reply_by}
use Rattle.machine.proofs.RepliesAlike.{told_by_case}
use Rattle.simulator.specs.declared.Judgement.{Judgement}
use Rattle.simulator.specs.Answers.{Judged, Needs}
use Rattle.simulator.specs.Replies.{of_judged, of_needs}

abbrev judgement_reply : Judgement → Reply
judgement_reply j = answer_reply (verdict_number j.verdict) j.readings j.end

pub judged_told : (r : Judged) → reply_by (λ j. answer_reply (verdict_number j.verdict) j.readings j.end) refusal_reply r ≡ of_judged r
unfolding of_judged
judged_told r = told_by_case of_judged judgement_reply refusal_reply (λ _. refl) (λ _. refl) r

pub needs_told : (r : Needs) → reply_by (λ n. count_reply n) refusal_reply r ≡ of_needs r
unfolding of_needs
needs_told r = told_by_case of_needs (λ n. count_reply n) refusal_reply (λ _. refl) (λ _. refl) r
