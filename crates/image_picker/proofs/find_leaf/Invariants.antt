-- `image_picker::find_leaf` meets its contract. Assumes nothing.
use Prim.Native.Nat.{◌-◌}
use lib.ListN.{length}
use Rattle.image.specs.mirror.Ends.{item_end}
use Rattle.image.proofs.loops.PickerTurn.{Sought}
use Rattle.image_picker.proofs.find_leaf.Given as goal

abbrev pub invariant-loop-i : goal.invariant-loop-i
invariant-loop-i l = Sought l.rows (item_end l.rows l.run) l.run l.from l.row l.n l.left l.i

abbrev pub decreases-loop-i : goal.decreases-loop-i
decreases-loop-i l = length l.run - l.i
