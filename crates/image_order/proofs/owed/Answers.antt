-- `image_order::owed` meets its contract. Assumes nothing.
use mathlib.Core.Path.{sym}
use borrow.Author.Tests.{eq-eqb, ne_eqb}
use Rattle.image.specs.mirror.Step.{owed}
use Rattle.image_order.proofs.owed.Goals as goal

pub returns-then-pair-eq0 : goal.returns-then-pair-eq0
unfolding owed
returns-then-pair-eq0 c =
    rw (sym c.cell-pair.ensures, eq-eqb c.cell-pair.result 0 c.if-pair-eq0.true) c.cell.ensures

pub returns : goal.returns
unfolding owed
returns c =
    rw (sym c.cell-pair.ensures, ne_eqb c.cell-pair.result 0 c.if-pair-eq0.false)
