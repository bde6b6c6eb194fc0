-- `fill::fill` meets its contract. Assumes nothing.
use lib.ListN.{length}
use Prim.Native.Nat.{◌-◌}
use Rattle.file_check.proofs.House.{WritingOn}
use Rattle.file_check.proofs.fill.fill.Given as goal

abbrev pub invariant-loop-here : goal.invariant-loop-here
invariant-loop-here l = WritingOn l.rows l.pool l.s l.initial.out l.initial.at l.out l.here l.at

abbrev pub decreases-loop-here : goal.decreases-loop-here
decreases-loop-here l = length l.s - l.here.at
