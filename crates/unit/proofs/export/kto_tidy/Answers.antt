-- `export::kto_tidy` meets its contract: the call's answer is what is handed out. Assumes nothing.
use Rattle.unit.proofs.export.kto_tidy.Goals as goal

pub returns : goal.returns
returns c = rw c.hand.ensures c.tidy.ensures
