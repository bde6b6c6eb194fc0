-- `quoted::text_end` meets its contract: what was passed are pieces without the quote. Assumes nothing.
use Prim.Native.Nat.{◌-◌}
use lib.ListN.{length}
use Rattle.file_front.specs.mirror.Values.{Passed}
use Rattle.file_front.proofs.quoted.text_end.Given as goal

abbrev pub invariant-loop-i : goal.invariant-loop-i
invariant-loop-i l = Passed l.s l.at l.quote l.i

abbrev pub decreases-loop-i : goal.decreases-loop-i
decreases-loop-i l = length l.s - l.i
