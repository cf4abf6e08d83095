-- Replies that are equal are told alike, and what is told of an answer case by case is the definition's reply. Assumes nothing.
use mathlib.Core.Path.{◌≡◌, refl}
use mathlib.Core.List.{List}
use Prim.Native.Nat.{ℕ}
use Rattle.std.specs.Prelude.{Result}
use Rattle.refusal.specs.declared.Refusal.{Refusal}
use Rattle.machine.specs.declared.Reply.{Reply}
use Rattle.machine.specs.Replies.{refusal_reply, answer_reply, count_reply, reply_by}
use Rattle.machine.proofs.RepliesAlike.{told_by_case}
use Rattle.interpreter.specs.declared.RunEnd.{RunEnd}
use Rattle.interpreter.specs.Answers.{Ran}
use Rattle.interpreter.specs.Replies.{exit_number, of_ran}
use Rattle.builder.specs.Answers.{Built}
use Rattle.builder.specs.Replies.{of_built}
use Rattle.bundle.specs.declared.Lines.{Lines}
use Rattle.bundle.specs.Answers.{Report}
use Rattle.bundle.specs.Replies.{of_report}
use Rattle.reader.specs.declared.GrammarBytes.{GrammarBytes}
use Rattle.typed.specs.Recursion.{TextRecursion}
use Rattle.typed.specs.Replies.{of_read, fault_reply, of_text_recursion}
use Rattle.sejimakpu.specs.Cells.{ReplyWritten}

pub told_as : {p q : Reply} {r : ℕ} {answer : List ℕ} → p ≡ q → ReplyWritten p r answer → ReplyWritten q r answer
told_as e t = rw (← e) t

pub ran_told : (r : Ran) → reply_by (λ (e : RunEnd). answer_reply (exit_number e.exit) e.steps e.reached) refusal_reply r ≡ of_ran r
unfolding of_ran
ran_told r = told_by_case of_ran (λ (e : RunEnd). answer_reply (exit_number e.exit) e.steps e.reached) refusal_reply (λ _. refl) (λ _. refl) r

pub built_told : (r : Built) → reply_by (λ (n : ℕ). count_reply n) refusal_reply r ≡ of_built r
unfolding of_built
built_told r = told_by_case of_built (λ (n : ℕ). count_reply n) refusal_reply (λ _. refl) (λ _. refl) r

pub report_told : (r : Report) → reply_by (λ (l : Lines). count_reply l.count) refusal_reply r ≡ of_report r
unfolding of_report
report_told r = told_by_case of_report (λ (l : Lines). count_reply l.count) refusal_reply (λ _. refl) (λ _. refl) r

pub read_told : (r : Result GrammarBytes Refusal) → reply_by (λ (g : GrammarBytes). count_reply g.length) refusal_reply r ≡ of_read r
unfolding of_read
read_told r = told_by_case of_read (λ (g : GrammarBytes). count_reply g.length) refusal_reply (λ _. refl) (λ _. refl) r

pub text_recursion_told : (r : TextRecursion) → reply_by (λ (u : Unit {0}). count_reply 0) fault_reply r ≡ of_text_recursion r
unfolding of_text_recursion
text_recursion_told r = told_by_case of_text_recursion (λ (u : Unit {0}). count_reply 0) fault_reply (λ _. refl) (λ _. refl) r
