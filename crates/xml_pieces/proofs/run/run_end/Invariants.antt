-- `run::run_end` meets its contract. Assumes nothing.
use mathlib.Core.Path.{◌≡◌}
use Prim.Native.Nat.{◌+◌, ◌-◌}
use lib.ListN.{length, drop}
use Rattle.text.specs.Lists.{span}
use Rattle.xml_pieces.specs.Kinds.{above}
use Rattle.xml_pieces.proofs.run.run_end.Given as goal

abbrev pub invariant-loop-i : goal.invariant-loop-i
invariant-loop-i l = l.i + span (above l.classes l.level) (drop l.i l.s) ≡ l.at + span (above l.classes l.level) (drop l.at l.s)

abbrev pub decreases-loop-i : goal.decreases-loop-i
decreases-loop-i l = length l.s - l.i
