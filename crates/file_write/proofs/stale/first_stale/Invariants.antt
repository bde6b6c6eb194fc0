-- `stale::first_stale` meets its contract. Assumes nothing.
use Prim.Native.Nat.{◌-◌}
use lib.ListN.{length}
use Rattle.std.specs.Prelude.{◌<◌, IfSome}
use Rattle.file_write.specs.mirror.Stale.{place_in}
use Rattle.file_write.proofs.Passing.{PassingOn}
use Rattle.file_write.proofs.stale.first_stale.Given as goal

abbrev pub invariant-loop-finer : goal.invariant-loop-finer
invariant-loop-finer l = PassingOn l.rows l.pool l.run l.from (place_in l.finer) l.i × IfSome l.finer (λ p. 0 < p)

abbrev pub decreases-loop-finer : goal.decreases-loop-finer
decreases-loop-finer l = length l.run - l.i
