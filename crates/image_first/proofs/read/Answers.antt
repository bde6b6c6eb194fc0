-- `image_first::read` meets its contract. Assumes nothing.
use Rattle.image_reading.proofs.House.{begun_reads}
use Rattle.image_first.proofs.read.Goals as goal

pub returns-in-Ok : goal.returns-in-Ok
returns-in-Ok c =
    rw c.accepted.ensures (begun_reads _ _ c.in-Ok.ensures)

pub returns-in-Err : goal.returns-in-Err
returns-in-Err c =
    begun_reads _ _ c.in-Err.ensures
