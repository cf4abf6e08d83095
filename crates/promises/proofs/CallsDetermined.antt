-- What each call of the library returns and leaves follows from what it is given, by what its crate says of its own answer. Assumes nothing.
use Rattle.std.specs.Prelude.{Result}
use mathlib.Core.Path.{◌≡◌, sym, ap, ◌∙◌}
use mathlib.Core.List.{List}
use Prim.Native.Nat.{ℕ}
use Rattle.refusal.specs.declared.Refusal.{Refusal}
use Rattle.machine.specs.declared.Reply.{Reply}
use Rattle.simulator.specs.Replies.{of_judged}
use Rattle.simulator.proofs.Determined.{judge_determined}
use Rattle.interpreter.specs.Replies.{of_ran}
use Rattle.interpreter.proofs.Answered.{run_determined}
use Rattle.builder.specs.Replies.{of_built}
use Rattle.builder.proofs.Answered.{build_determined}
use Rattle.bundle.specs.Answers.{Report}
use Rattle.bundle.specs.Replies.{of_report, totals_left}
use Rattle.bundle.proofs.Reporting.{bundle_determined}
use Rattle.reader.specs.declared.GrammarBytes.{GrammarBytes}
use Rattle.typed.specs.Replies.{of_read, of_text_recursion, grammar_left}
use Rattle.typed.proofs.ReadRight.{read_determined}
use Rattle.typed.proofs.Determined.{build_text_determined, judge_text_determined}
use Rattle.typed.proofs.RecursionDetermined.{text_recursion_determined}
use Rattle.sejimakpu.specs.Cells.{ReplyWritten, cells}
use Rattle.promises.specs.Calls.{CallsDetermined}

-- one reply, one answer
told : {p q : Reply} {r s : ℕ} {x y : List ℕ} → p ≡ q → ReplyWritten p r x → ReplyWritten q s y → (r ≡ s) × (x ≡ y)
told e t u = (t.number ∙ ap (λ (p : Reply). p.refusal) e ∙ sym u.number, t.written ∙ ap cells e ∙ sym u.written)

same : {p : Reply} {r s : ℕ} {x y : List ℕ} → ReplyWritten p r x → ReplyWritten p s y → (r ≡ s) × (x ≡ y)
same t u = (t.number ∙ sym u.number, t.written ∙ sym u.written)

pub calls_determined : CallsDetermined
calls_determined =
    record {
      check = λ i r s x y t u. same t u;
      cells = λ i n r s x y t u. same t u;
      judge =
          λ i c n n₁ n₂ w w₁ w₂ r s x y t u.
          let (e, ns, ws) = judge_determined i c n w t.judged u.judged n₁ w₁ n₂ w₂ t.says u.says in
          (told (ap of_judged e) t.tells u.tells, ns, ws);
      plain_run =
          λ i c b k k₁ k₂ r s x y t u.
          let (e, ks) = run_determined i c k b t.ran u.ran k₁ k₂ t.says u.says in
          (told (ap of_ran e) t.tells u.tells, ks);
      build =
          λ how g i i₁ i₂ r s x y t u.
          let (e, is) = build_determined how g i t.built u.built i₁ i₂ t.says u.says in
          (told (ap of_built e) t.tells u.tells, is);
      check_recursion = λ g r s x y t u. same t u;
      check_text_recursion =
          λ a r s x y t u.
          told (ap of_text_recursion (text_recursion_determined a t.checked u.checked t.says u.says)) t.tells u.tells;
      read_grammar =
          λ a g g₁ g₂ r s x y t u.
          let e = read_determined a t.read u.read t.says u.says in
          (told (ap of_read e) t.tells u.tells, t.left ∙ ap (λ (d : Result GrammarBytes Refusal). grammar_left d g) e ∙ sym u.left);
      build_text =
          λ a i i₁ i₂ r s x y t u.
          let (e, is) = build_text_determined a i t.built u.built i₁ i₂ t.says u.says in
          (told (ap of_built e) t.tells u.tells, is);
      judge_text =
          λ a c l l₁ l₂ r s x y t u.
          let (e, ls) = judge_text_determined a c l t.judged u.judged l₁ l₂ t.says u.says in
          (told (ap of_judged e) t.tells u.tells, ls);
      judge_bundle =
          λ i b l l₁ l₂ q q₁ q₂ n n₁ n₂ w w₁ w₂ r s x y t u.
          let (e, ls, ns, ws) = bundle_determined i b t.report u.report l l₁ l₂ n n₁ n₂ w w₁ w₂ t.says u.says in
          (told (ap of_report e) t.tells u.tells, ls, t.left ∙ ap (λ (d : Report). totals_left d q) e ∙ sym u.left, ns, ws);
    }
