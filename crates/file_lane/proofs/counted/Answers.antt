-- `counted` meets its contract: what the pass tells of a table is told of the list whose table it is. Assumes nothing.
use Rattle.file_lane.proofs.Knowing.{seen_length}
use Rattle.file_lane.proofs.counted.Goals as goal

pub returns : goal.returns
returns c = seen_length _ _ _ _ c.length_from.ensures
