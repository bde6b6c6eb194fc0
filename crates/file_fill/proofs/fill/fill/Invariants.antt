-- `fill::fill` meets its contract: what is done stands in the buffer, and what is left comes. Assumes nothing.
use Prim.Native.Nat.{◌-◌}
use lib.ListN.{length}
use Rattle.file_fill.proofs.Filling.{Filling}
use Rattle.file_fill.proofs.fill.fill.Given as goal

abbrev pub invariant-loop-out : goal.invariant-loop-out
invariant-loop-out l = Filling l.nodes l.s l.from l.initial.out l.out l.n l.at l.to

abbrev pub decreases-loop-out : goal.decreases-loop-out
decreases-loop-out l = length l.s - l.at
