-- `pass::found` meets its contract. Assumes nothing.
use mathlib.Core.List.{[]}
use lib.ListN.{length}
use Prim.Native.Nat.{◌-◌}
use Rattle.file_measure.proofs.House.{GoingOn}
use Rattle.file_measure.proofs.pass.found.Given as goal

abbrev pub invariant-loop-inner : goal.invariant-loop-inner
invariant-loop-inner l = GoingOn l.rows l.pool l.s [] 7 [] l.stack l.here l.at

abbrev pub decreases-loop-inner : goal.decreases-loop-inner
decreases-loop-inner l = length l.s - l.here.at
