-- `along::length_from` meets its contract: what comes from here on comes from the start. Assumes nothing.
use Prim.Native.Nat.{◌-◌}
use lib.ListN.{length}
use Rattle.file_lane.proofs.Looping.{Loop}
use Rattle.file_lane.proofs.along.length_from.Given as goal

abbrev pub invariant-loop-from : goal.invariant-loop-from
invariant-loop-from l = Loop l.nodes l.s l.from l.n l.at l.total

abbrev pub decreases-loop-from : goal.decreases-loop-from
decreases-loop-from l = length l.s - l.at
