-- `image_order::again` meets its contract. Assumes nothing.
use mathlib.Core.Path.{sym}
use borrow.Author.Tests.{lt-ltb, le-ltb}
use Rattle.image.specs.mirror.Step.{again}
use Rattle.image_order.proofs.again.Goals as goal

pub returns-then-count-lt-SOME : goal.returns-then-count-lt-SOME
unfolding again
returns-then-count-lt-SOME c =
    rw (sym c.cell-count.ensures, lt-ltb c.cell-count.result 2 c.if-count-lt-SOME.true)

pub returns : goal.returns
unfolding again
returns c =
    rw (sym c.cell-count.ensures, le-ltb c.cell-count.result 2 c.if-count-lt-SOME.false)
