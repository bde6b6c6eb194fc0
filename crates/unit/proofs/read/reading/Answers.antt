-- `read::reading` meets its contract: what is told of an image has its answer and its count. Assumes nothing.
use Rattle.image_reading.proofs.House.{begun_reads, begun_counts}
use Rattle.unit.proofs.read.reading.Goals as goal

pub returns-in-Ok : goal.returns-in-Ok
returns-in-Ok c =
    record {
      is = rw c.accepted.ensures (begun_reads _ _ c.in-Ok.ensures);
      counts = rw c.accepted.ensures (begun_counts _ _ c.in-Ok.ensures);
    }

pub returns-in-Err : goal.returns-in-Err
returns-in-Err c = record { is = begun_reads _ _ c.in-Err.ensures; counts = begun_counts _ _ c.in-Err.ensures }
