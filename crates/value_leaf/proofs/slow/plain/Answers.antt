-- `slow::plain` meets its contract. Assumes nothing.
use Rattle.value_leaf.proofs.Weighing.{plain_told}
use Rattle.value_leaf.proofs.slow.plain.Goals as goal

pub returns : goal.returns
returns c =
    λ a b. plain_told _ _ _ _ _ _ _ a b c.text_end-end.ensures (rw c.part_of.ensures at c.size.ensures) c.tell.ensures
