-- `image_reader::read_items` meets its contract. Assumes nothing.
use Prim.Native.Nat.{◌-◌}
use lib.ListN.{length}
use Rattle.image.specs.mirror.Ends.{item_end}
use Rattle.image.proofs.loops.ReaderTurn.{Here}
use Rattle.image_reader.proofs.read_items.Given as goal

abbrev pub invariant-loop-i : goal.invariant-loop-i
invariant-loop-i l = Here l.rows (item_end l.rows l.run) l.run l.from l.q l.i l.count

abbrev pub decreases-loop-i : goal.decreases-loop-i
decreases-loop-i l = length l.run - l.i
