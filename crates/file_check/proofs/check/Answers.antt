-- `check` meets its contract, from what the lane left, or what the exact passes answered. Assumes nothing.
use Rattle.file_fill.proofs.Imaging.{laned_checks, laned_room, laned_still}
use Rattle.file_check.proofs.check.Goals as goal

pub returns-in-Some : goal.returns-in-Some
returns-in-Some c = laned_checks _ _ _ _ _ _ c.in-Some.is c.laned.ensures c.if-size-out.true c.accepted.ensures

pub returns-in-Some-2 : goal.returns-in-Some-2
returns-in-Some-2 c = laned_room _ _ _ _ _ _ c.in-Some.is c.laned.ensures c.if-size-out.false c.no_room.ensures

pub returns-in-None : goal.returns-in-None
returns-in-None c = laned_still _ _ _ _ c.laned.ensures c.in-None.is _ _ c.exact.ensures
