-- `place::place` meets its contract. Assumes nothing.
use Rattle.value.proofs.given.Putting.{placed, unplaced}
use Rattle.value_shared.proofs.place.place.Goals as goal

pub returns-then-at-out : goal.returns-then-at-out
returns-then-at-out c =
    placed _ _ _ c.if-at-out.true

pub returns-else-at-out : goal.returns-else-at-out
returns-else-at-out c =
    unplaced _ _ _ c.if-at-out.false
