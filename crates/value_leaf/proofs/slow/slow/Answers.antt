-- `slow::slow` meets its contract. Assumes nothing.
use Rattle.value_leaf.proofs.Ends.{told, told_cut}
use Rattle.value_leaf.proofs.slow.slow.Goals as goal

pub returns-then-is_cut : goal.returns-then-is_cut
returns-then-is_cut c =
    told_cut _ _ _ _ _ _ _ _ c.text_end-end.ensures c.part_of-t.ensures c.is_cut.ensures c.if-is_cut.true c.tell.ensures

pub returns : goal.returns
returns c =
    told _ _ _ _ _ _ _ _ _ c.text_end-end.ensures c.part_of-t.ensures c.is_cut.ensures c.if-is_cut.false c.size.ensures c.tell-2.ensures
