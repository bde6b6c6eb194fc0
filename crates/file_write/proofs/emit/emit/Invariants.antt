-- `emit::emit` meets its contract. Assumes nothing.
use mathlib.Core.Path.{◌≡◌}
use Prim.Native.Nat.{◌-◌}
use lib.ListN.{length}
use Rattle.file_write.proofs.Emitting.{EmittingOn}
use Rattle.file_write.proofs.emit.emit.Given as goal

abbrev pub invariant-loop-w : goal.invariant-loop-w
invariant-loop-w l =
    EmittingOn l.rows l.pool l.run l.from l.initial.w.out.now l.initial.w.at l.w.out.now l.g l.i l.w.at × (l.w.out.ghost_name ≡ l.initial.w.out.ghost_name)

abbrev pub decreases-loop-w : goal.decreases-loop-w
decreases-loop-w l = length l.run - l.i
