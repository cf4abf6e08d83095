-- Replies with equal numbers are equal, and a reply defined by cases is what is told case by case. Assumes nothing.
use mathlib.Core.Path.{◌≡◌, refl, sym}
use Rattle.machine.specs.declared.Reply.{Reply}
use Rattle.std.specs.Prelude.{Result, Ok, Err}
use Rattle.refusal.specs.declared.Refusal.{Refusal}
use Rattle.machine.specs.Replies.{refusal_reply, count_reply, reply_by, of_checked}

-- a reply defined by cases
pub told_by_case :
    {A E : Type 0} (told : Result A E → Reply) (answer : A → Reply) (fault : E → Reply) →
    ((a : A) → told (Ok a) ≡ answer a) → ((e : E) → told (Err e) ≡ fault e) → (r : Result A E) → reply_by answer fault r ≡ told r
unfolding reply_by
told_by_case told answer fault good bad (Ok a) = sym (good a)
told_by_case told answer fault good bad (Err e) = sym (bad e)

-- that of a check
pub checked_told : (r : Result Unit Refusal) → reply_by (λ _. count_reply 0) refusal_reply r ≡ of_checked r
unfolding of_checked
checked_told r = told_by_case of_checked (λ _. count_reply 0) refusal_reply (λ _. refl) (λ _. refl) r
