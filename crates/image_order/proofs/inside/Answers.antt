-- `image_order::inside` meets its contract. Assumes nothing.
use mathlib.Core.Path.{sym}
use native.Mathlib.Omega.{arith}
use borrow.Author.Tests.{eq-eqb, ne_eqb}
use Rattle.image.specs.mirror.Step.{inside}
use Rattle.image_order.proofs.inside.Goals as goal

pub returns-then-cell-q : goal.returns-then-cell-q
unfolding inside
returns-then-cell-q c =
    rw (sym c.cell.ensures, ne_eqb c.cell.result c.args.q c.if-cell-q.true)

pub returns-then-before : goal.returns-then-before
unfolding inside
returns-then-before c =
    rw (
      sym c.cell.ensures,
      eq-eqb c.cell.result c.args.q (omega (arith, c.if-cell-q.false)),
      sym c.cell-2.ensures,
      sym c.before-2.ensures,
      c.if-before.true,
      sym c.cell-then-before.ensures,
    )

pub returns : goal.returns
unfolding inside
returns c =
    rw (sym c.cell.ensures, eq-eqb c.cell.result c.args.q (omega (arith, c.if-cell-q.false)), sym c.cell-2.ensures, sym c.before-2.ensures, c.if-before.false)
