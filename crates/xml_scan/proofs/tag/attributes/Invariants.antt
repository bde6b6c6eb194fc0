-- `tag::attributes` meets its contract. Assumes nothing.
use Prim.Native.Nat.{◌-◌}
use lib.ListN.{length}
use Rattle.xml_scan.proofs.Tags.{Attributing}
use Rattle.xml_scan.proofs.tag.attributes.Given as goal

abbrev pub invariant-loop-seen : goal.invariant-loop-seen
invariant-loop-seen l = Attributing l.s l.at l.seen l.i

abbrev pub decreases-loop-seen : goal.decreases-loop-seen
decreases-loop-seen l = length l.s - l.i
