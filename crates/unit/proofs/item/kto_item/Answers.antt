-- `item::kto_item` meets its contract: the call's answer is what is handed out. Assumes nothing.
use Rattle.unit.proofs.item.kto_item.Goals as goal

pub returns-in-Ok : goal.returns-in-Ok
returns-in-Ok c = rw (c.hand.ensures, c.picked.ensures) c.in-Ok.ensures.is

pub returns-in-Err : goal.returns-in-Err
returns-in-Err c = rw c.hand-in-Err.ensures c.in-Err.ensures.is
