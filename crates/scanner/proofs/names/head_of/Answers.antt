-- `scanner::names::head_of` meets its contract: no letters, a reserved word, the name sought or another. Assumes nothing.
use mathlib.Core.Path.{sym, ◌∙◌}
use mathlib.Core.Bool.{true, false}
use borrow.Author.Tests.{eqb-true, eqb-false}
use Rattle.scanner.proofs.Searching.{head_none, head_reserved, head_named}
use Rattle.scanner.proofs.Tokenizing.{same_bytes}
use Rattle.scanner.proofs.names.head_of.Goals as goal

pub returns-then-is_reserved : goal.returns-then-is_reserved
returns-then-is_reserved c =
    elim c.if-is_empty.branch [
      | goal.then-is_empty w ↦ head_none _ _ (eqb-true _ _ (sym w.if-is_empty.ensures))
      | goal.else-is_empty w ↦ head_reserved _ _ (sym c.if-is_reserved.true ∙ w.value-is ∙ w.is_reserved.ensures)
    ]

pub returns-then-same : goal.returns-then-same
returns-then-same c =
    elim c.if-is_empty.branch [
      | goal.then-is_empty w ↦ cc
      | goal.else-is_empty w ↦
          head_named _ _ (eqb-false _ _ (sym w.if-is_empty.ensures)) (sym c.if-is_reserved.false ∙ w.value-is ∙ w.is_reserved.ensures) true (c.if-same.ensures ∙ same_bytes _ _)
    ]

pub returns-else-same : goal.returns-else-same
returns-else-same c =
    elim c.if-is_empty.branch [
      | goal.then-is_empty w ↦ cc
      | goal.else-is_empty w ↦
          head_named _ _ (eqb-false _ _ (sym w.if-is_empty.ensures)) (sym c.if-is_reserved.false ∙ w.value-is ∙ w.is_reserved.ensures) false (c.if-same.ensures ∙ same_bytes _ _)
    ]
