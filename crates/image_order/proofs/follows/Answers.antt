-- `image_order::follows` meets its contract. Assumes nothing.
use mathlib.Core.Path.{sym}
use borrow.Author.Tests.{eq-eqb, ne_eqb, lt-ltb, le-ltb}
use Rattle.image.specs.mirror.Step.{follows}
use Rattle.image_order.proofs.follows.Goals as goal

pub returns-then-x-eq0 : goal.returns-then-x-eq0
unfolding follows
returns-then-x-eq0 c =
    rw (eq-eqb c.args.x 0 c.if-x-eq0.true)

pub returns-then-cell-x : goal.returns-then-cell-x
unfolding follows
returns-then-cell-x c =
    rw (ne_eqb c.args.x 0 c.if-x-eq0.false, sym c.cell.ensures, lt-ltb c.cell.result c.args.x c.if-cell-x.true)

pub returns-then-is_leaf : goal.returns-then-is_leaf
unfolding follows
returns-then-is_leaf c =
    rw (
      ne_eqb c.args.x 0 c.if-x-eq0.false,
      sym c.cell.ensures,
      le-ltb c.cell.result c.args.x c.if-cell-x.false,
      sym c.is_leaf.ensures,
      c.if-is_leaf.true,
    ) c.climbs.ensures

pub returns : goal.returns
unfolding follows
returns c =
    rw (
      ne_eqb c.args.x 0 c.if-x-eq0.false,
      sym c.cell.ensures,
      le-ltb c.cell.result c.args.x c.if-cell-x.false,
      sym c.is_leaf.ensures,
      c.if-is_leaf.false,
    ) c.inside.ensures
