-- `class::run` meets its contract: what was passed so far. Assumes nothing.
use Prim.Native.Nat.{◌-◌, ◌≤◌}
use Rattle.value_levels.specs.mirror.Levels.{Leveled, Ran}
use Rattle.value_levels.proofs.class.run.Given as goal

abbrev pub invariant-loop-i : goal.invariant-loop-i
invariant-loop-i l = (l.at ≤ l.i) × (Leveled l.levels → Ran l.least l.s l.at l.i)

abbrev pub decreases-loop-i : goal.decreases-loop-i
decreases-loop-i l = l.last - l.i
