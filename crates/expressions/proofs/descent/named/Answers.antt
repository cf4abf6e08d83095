-- `expressions::descent::named` meets its contract: the number of a line fits a byte. Assumes nothing.
use mathlib.Core.Path.{◌≡◌, ap, ◌∙◌}
use mathlib.Core.List.{List}
use Prim.Native.Nat.{ℕ, ◌+◌, ◌-◌}
use native.Mathlib.Omega.{arith}
use lib.ListN.{take, drop}
use Rattle.syntax.specs.Code.Heads.{heads}
use Rattle.syntax.specs.Compile.{index_of}
use Rattle.expressions.proofs.Leaves.{index_below, name_is}
use Rattle.expressions.proofs.descent.named.Goals as goal

pub overflow_cast-result : goal.overflow_cast-result
overflow_cast-result c =
    let word : List ℕ = take (c.args.name + c.args.long - c.args.name) (drop c.args.name c.args.text.now) in
    omega (arith, c.line_of.ensures, index_below word (heads c.args.text.now), c.requires.1)

pub returns : goal.returns
returns c =
    let long : c.args.name + c.args.long - c.args.name ≡ c.args.long = omega arith in
    λ rules. name_is _ _ _ _
    (c.line_of.ensures ∙ ap (λ (n : ℕ). index_of (take n (drop c.args.name c.args.text.now)) (heads c.args.text.now)) long)
