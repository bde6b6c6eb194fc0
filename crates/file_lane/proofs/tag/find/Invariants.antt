-- `tag::find` meets its contract: what is sought from n on is sought from the start. Assumes nothing.
use Prim.Native.Nat.{◌-◌, ◌<◌}
use lib.ListN.{length}
use Rattle.file_lane.proofs.Seeking.{Seeks}
use Rattle.file_lane.proofs.tag.find.Given as goal

abbrev pub invariant-loop-n : goal.invariant-loop-n
invariant-loop-n l = (0 < l.n) × Seeks l.nodes l.x l.y l.from l.n

abbrev pub decreases-loop-n : goal.decreases-loop-n
decreases-loop-n l = length l.nodes - l.n
