-- `close::close_to` meets its contract. Assumes nothing.
use mathlib.Core.Path.{◌≡◌}
use Rattle.file_write.proofs.Closing.{Shutting}
use Rattle.file_write.proofs.close.close_to.Given as goal

abbrev pub invariant-loop-g : goal.invariant-loop-g
invariant-loop-g l =
    Shutting l.rows l.pool l.initial.w.out.now l.from l.p l.initial.w.at l.w.out.now l.g l.w.at × (l.w.out.ghost_name ≡ l.initial.w.out.ghost_name)

abbrev pub decreases-loop-g : goal.decreases-loop-g
decreases-loop-g l = l.g
