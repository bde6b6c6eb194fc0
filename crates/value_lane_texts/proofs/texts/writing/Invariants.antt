-- `texts::writing` meets its contract: what was read from `at` to `i` is so many characters of a text. Assumes nothing.
use Prim.Native.Nat.{◌+◌, ◌-◌, ◌≤◌}
use lib.ListN.{length}
use Rattle.value_lane_texts.specs.mirror.Going.{Going}
use Rattle.value_levels.specs.mirror.Levels.{Leveled}
use Rattle.value_lane_texts.proofs.texts.writing.Given as goal

abbrev pub invariant-loop-i : goal.invariant-loop-i
invariant-loop-i l = (l.at + l.gone + l.tails ≤ l.i) × (Leveled l.levels → Going l.s l.at l.i l.gone l.tails)

abbrev pub decreases-loop-i : goal.decreases-loop-i
decreases-loop-i l = length l.s - l.i
