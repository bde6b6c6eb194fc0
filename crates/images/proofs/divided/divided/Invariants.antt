-- `divided::divided` meets its contract: what the loop has written and what comes from its place on are what comes from the start on. Assumes nothing.
use Prim.Native.Nat.{◌-◌}
use lib.ListN.{length}
use Rattle.images.proofs.Dividing.{Dividing}
use Rattle.images.proofs.divided.divided.Given as goal

abbrev pub invariant-loop-at : goal.invariant-loop-at
invariant-loop-at l = Dividing l.run l.out l.at l.n

abbrev pub decreases-loop-at : goal.decreases-loop-at
decreases-loop-at l = length l.run - l.at
