-- The number of each verdict, and the numbers of what a check answers, as include/sejimakpu.h names them. Assumes nothing: these are definitions.
use Rattle.std.specs.Prelude.{ℕ, Result, Ok, Err}
use Rattle.machine.specs.declared.Config.{Config}
use Rattle.refusal.specs.declared.Refusal.{Refusal}
use Rattle.machine.specs.declared.Reply.{Reply}
use Rattle.machine.specs.declared.Verdict.{Verdict}
use Rattle.machine.specs.declared.Verdict.TheVariants.{Accepted, Ended, Stuck, Looping, Halted}

-- a verdict's number; 0 is none, 5 and 6 are how else a plain run is left
unfoldable pub verdict_number : Verdict → ℕ
verdict_number Accepted = 1
verdict_number Ended = 2
verdict_number Stuck = 3
verdict_number Looping = 4
verdict_number Halted = 7

abbrev pub no_config : Config
no_config = record { state = 0; head = 0; symbol = 0 }

-- a refused call gives number and place, and no verdict; an answered one gives refusal 0
abbrev pub refusal_reply : Refusal → Reply
refusal_reply f = record { refusal = f.number; place = f.place; verdict = 0; count = 0; end = no_config }

abbrev pub answer_reply : (verdict count : ℕ) → Config → Reply
answer_reply v n c = record { refusal = 0; place = 0; verdict = v; count = n; end = c }

-- an answer that is a count alone
abbrev pub count_reply : (count : ℕ) → Reply
count_reply n = answer_reply 0 n no_config

-- by what is told of an answer and of a fault
unfoldable pub reply_by : {A E : Type 0} → (A → Reply) → (E → Reply) → Result A E → Reply
reply_by answer fault (Ok a) = answer a
reply_by answer fault (Err e) = fault e

-- THE CHECK of an image, or of a grammar
unfoldable pub of_checked : Result Unit Refusal → Reply
of_checked (Ok _) = count_reply 0
of_checked (Err f) = refusal_reply f
