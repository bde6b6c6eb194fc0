-- `image_order::mated` meets its contract. Assumes nothing.
use mathlib.Core.Path.{sym}
use borrow.Author.Tests.{eq-eqb, ne_eqb}
use Rattle.image.specs.mirror.Step.{mated}
use Rattle.image_order.proofs.mated.Goals as goal

pub returns-then-mate-eq0 : goal.returns-then-mate-eq0
unfolding mated
returns-then-mate-eq0 c =
    rw (sym c.cell-mate.ensures, eq-eqb c.cell-mate.result 0 c.if-mate-eq0.true)

pub returns : goal.returns
unfolding mated
returns c =
    rw (sym c.cell-mate.ensures, ne_eqb c.cell-mate.result 0 c.if-mate-eq0.false)
