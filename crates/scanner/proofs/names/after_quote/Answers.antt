-- `scanner::names::after_quote` meets its contract: a quote is a token alone, or begins a range. Assumes nothing.
use mathlib.Core.Path.{sym, ap}
use Prim.Native.Nat.{ℕ, ◌+◌}
use Rattle.syntax.specs.Tokens.{letter}
use Rattle.scanner.proofs.Tokenizing.{range_token, sign_token}
use Rattle.scanner.proofs.names.after_quote.Goals as goal

pub returns-then-range_at : goal.returns-then-range_at
unfolding letter
returns-then-range_at c =
    ap (λ (n : ℕ). c.args.at + n) (sym (range_token c.args.text.now c.args.at (rw c.requires.1) c.if-range_at.ensures).1)

pub returns : goal.returns
unfolding letter
returns c = ap (λ (n : ℕ). c.args.at + n) (sym (sign_token c.args.text.now c.args.at (rw c.requires.1) c.if-range_at.ensures).1)
