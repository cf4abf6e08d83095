-- `expressions::descent::suffixes` meets its contract, and ends: each suffix takes rules from those that are left. Assumes nothing.
use mathlib.Core.Path.{refl, sym, subst, ◌∙◌}
use Prim.Native.Nat.{ℕ, ◌<◌}
use native.Mathlib.Omega.{arith}
use Rattle.expressions.specs.Code.Operators.{read_of}
use Rattle.expressions.proofs.Emitting.{handed_on}
use Rattle.expressions.proofs.Lookings.{suffix_here, suffix_not_here}
use Rattle.expressions.proofs.Operands.{suffix_spent, suffixes_spent, spent_itself, suffixes_none, suffixes_on, suffixes_over}
use Rattle.expressions.proofs.Leaves.{nothing_spent}
use Rattle.expressions.proofs.descent.+suffixes.Goals as goal

pub returns-in_default : goal.returns-in_default
returns-in_default t c = record {
  right = suffixes_none _ _ (suffix_not_here _ _ _ c.peek-l.ensures (λ s e. c.in_default.not-Suffix s (c.role_of.ensures ∙ e)));
  spent = λ f. spent_itself _;
}

pub returns-in_err-more : goal.returns-in_err-more
returns-in_err-more t c =
    rw (handed_on _ _ c.from_residual.ensures.1)
    (record {
      right = suffixes_over _ _ _ _ (suffix_here _ _ _ c.peek-l.ensures _ (sym c.role_of.ensures ∙ c.in-Suffix.is)) _ c.in_err-more.ensures refl;
      spent = nothing_spent _ _ _ refl;
    })

pub suffixes-requires : goal.suffixes-requires
suffixes-requires t c =
    let (spent, less) = suffix_spent (read_of c.args.x c.args.rules.now) _ _ (read_of c.in_ok-more.more c.with_suffix.new.rules) c.in_ok-more.ensures refl in
    (subst (λ (n : ℕ). c.with_suffix.new.rules.left < n) c.decreases less, omega (arith, spent.room, c.requires))

pub returns : goal.returns
returns t c =
    let x = read_of c.args.x c.args.rules.now in
    let more = read_of c.in_ok-more.more c.with_suffix.new.rules in
    record {
      right =
          suffixes_on _ x _ _ (suffix_here _ _ _ c.peek-l.ensures _ (sym c.role_of.ensures ∙ c.in-Suffix.is)) more c.in_ok-more.ensures refl _
          c.suffixes.ensures.right;
      spent = λ f. suffixes_spent x more _ (suffix_spent x _ _ more c.in_ok-more.ensures refl).0 (c.suffixes.ensures.spent f);
    }
