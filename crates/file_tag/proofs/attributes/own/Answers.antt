-- `attributes::own` meets its contract. Assumes nothing.
use Rattle.file_walk.specs.mirror.Stride.{named}
use Rattle.file_walk.proofs.calls.Step.{own_value, coin_told}
use Rattle.file_tag.proofs.attributes.own.Goals as goal

pub returns : goal.returns
unfolding named
returns c =
    own_value _ _ _ _ _ _ c.cell.ensures c.if-cell-ne-AMT.false c.if-count-ne1.false _
    (rw c.part_of.ensures at c.same.ensures) _ c.if-not-same.false (coin_told c.part_of-2.ensures c.is_ccy.ensures)
