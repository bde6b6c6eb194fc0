-- `elements::elements` meets its contract. Assumes nothing.
use Prim.Native.Nat.{◌-◌}
use lib.ListN.{length}
use Rattle.std.specs.Prelude.{Ok}
use Rattle.xml.specs.mirror.Auto.{root}
use Rattle.xml_scan.specs.mirror.Goes.{Goes}
use Rattle.xml_scan.specs.mirror.Tags.{inside}
use Rattle.xml_scan.proofs.elements.elements.Given as goal

abbrev pub invariant-loop-names : goal.invariant-loop-names
invariant-loop-names l = Goes l.s l.at root (inside l.names) (Ok l.i)

abbrev pub decreases-loop-names : goal.decreases-loop-names
decreases-loop-names l = length l.s - l.i
