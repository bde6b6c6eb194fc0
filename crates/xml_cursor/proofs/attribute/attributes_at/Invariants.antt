-- `attribute::attributes_at` meets its contract: what was counted, and what is still to come from `i`, make up the answer from `at`.
-- Assumes nothing.
use Prim.Native.Nat.{◌-◌}
use lib.ListN.{length}
use Rattle.xml_tags.proofs.Steps.{Counted}
use Rattle.xml_cursor.proofs.attribute.attributes_at.Given as goal

abbrev pub invariant-loop-a : goal.invariant-loop-a
invariant-loop-a l = Counted l.s l.at l.count l.i

abbrev pub decreases-loop-a : goal.decreases-loop-a
decreases-loop-a l = length l.s - l.i
