-- `texts::reference` meets its contract: what was read from `at` to `i` is a reference, or more of one. Assumes nothing.
use Prim.Native.Nat.{◌-◌, ◌<◌}
use lib.ListN.{length}
use Rattle.value_lane_texts.specs.mirror.Going.{Slashed}
use Rattle.value_levels.specs.mirror.Levels.{Leveled}
use Rattle.value_lane_texts.proofs.texts.reference.Given as goal

abbrev pub invariant-loop-i : goal.invariant-loop-i
invariant-loop-i l = (l.at < l.i) × (Leveled l.levels → Slashed l.s l.at l.i)

abbrev pub decreases-loop-i : goal.decreases-loop-i
decreases-loop-i l = length l.s - l.i
