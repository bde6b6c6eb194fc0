-- `divided::taken` meets its contract. Assumes nothing.
use Rattle.images.proofs.Dividing.{told_taken}
use Rattle.images.proofs.divided.taken.Goals as goal

pub returns-in-Ok : goal.returns-in-Ok
returns-in-Ok c = told_taken _ _ c.in-Ok.ensures

pub returns-in-Err : goal.returns-in-Err
returns-in-Err c = told_taken _ _ c.in-Err.ensures
