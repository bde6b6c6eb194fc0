-- `image_picker::head` meets its contract. Assumes nothing.
use mathlib.Core.Path.{sym}
use borrow.Author.Tests.{le-leb, lt-leb}
use Rattle.image.specs.mirror.Run.{head_of}
use Rattle.image_picker.proofs.head.Goals as goal

pub returns-then-cell-le-CCY : goal.returns-then-cell-le-CCY
unfolding head_of
returns-then-cell-le-CCY c =
    rw (sym c.cell.ensures, le-leb c.cell.result 5 c.if-cell-le-CCY.true)

pub returns : goal.returns
unfolding head_of
returns c =
    rw (sym c.cell.ensures, lt-leb c.cell.result 5 c.if-cell-le-CCY.false)
