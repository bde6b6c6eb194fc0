-- `image_order::beside` meets its contract. Assumes nothing.
use mathlib.Core.Path.{sym}
use borrow.Author.Tests.{eq-eqb, ne_eqb}
use Rattle.image.specs.mirror.Step.{beside}
use Rattle.image_order.proofs.beside.Goals as goal

pub returns-then-cell-eq1 : goal.returns-then-cell-eq1
unfolding beside
returns-then-cell-eq1 c =
    rw (sym c.cell.ensures, eq-eqb c.cell.result 1 c.if-cell-eq1.true)

pub returns-then-before : goal.returns-then-before
unfolding beside
returns-then-before c =
    rw (
      sym c.cell.ensures,
      ne_eqb c.cell.result 1 c.if-cell-eq1.false,
      sym c.in_order.ensures,
      c.if-in_order.true,
      sym c.owed.ensures,
      sym c.before-then-in_order.ensures,
      c.if-before.true,
    ) c.mated.ensures

pub returns-else-before : goal.returns-else-before
unfolding beside
returns-else-before c =
    rw (sym c.cell.ensures, ne_eqb c.cell.result 1 c.if-cell-eq1.false, sym c.in_order.ensures, c.if-in_order.true, sym c.owed.ensures, sym c.before-then-in_order.ensures, c.if-before.false)

pub returns-else-in_order : goal.returns-else-in_order
unfolding beside
returns-else-in_order c =
    rw (sym c.cell.ensures, ne_eqb c.cell.result 1 c.if-cell-eq1.false, sym c.in_order.ensures, c.if-in_order.false)
