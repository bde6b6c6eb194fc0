-- `size::kto_size` meets its contract: the call's answer is what is handed out. Assumes nothing.
use Rattle.unit.proofs.size.kto_size.Goals as goal

pub returns : goal.returns
returns c = rw c.hand.ensures c.size.ensures
