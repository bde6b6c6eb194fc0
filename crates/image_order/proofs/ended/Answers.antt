-- `image_order::ended` meets its contract. Assumes nothing.
use mathlib.Core.Path.{sym}
use Rattle.image.specs.mirror.Step.{ended}
use Rattle.image_order.proofs.ended.Goals as goal

pub returns-then-is_leaf : goal.returns-then-is_leaf
unfolding ended
returns-then-is_leaf c =
    rw (sym c.is_leaf.ensures, c.if-is_leaf.true) c.rests.ensures

pub returns : goal.returns
unfolding ended
returns c =
    rw (sym c.is_leaf.ensures, c.if-is_leaf.false)
