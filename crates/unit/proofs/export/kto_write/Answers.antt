-- `export::kto_write` meets its contract: the call's answer is what is handed out. Assumes nothing.
use Rattle.unit.proofs.export.kto_write.Goals as goal

pub returns : goal.returns
returns c = rw c.hand.ensures c.write.ensures
