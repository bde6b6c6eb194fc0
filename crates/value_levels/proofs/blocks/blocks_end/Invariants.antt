-- `blocks::blocks_end` meets its contract: what was passed so far. Assumes nothing.
use mathlib.Core.Bool.{Bool, true}
use Prim.Native.Nat.{ℕ, ◌+◌, ◌-◌}
use Rattle.value_levels.specs.mirror.Runs.{Over}
use Rattle.value_levels.proofs.blocks.blocks_end.Given as goal

abbrev pub invariant-loop-i : goal.invariant-loop-i
invariant-loop-i g l = (p : ℕ → Bool) → ((i : ℕ) → goal.F-post g l.passes i true → Over p l.s i (i + 16)) → Over p l.s l.at l.i

abbrev pub decreases-loop-i : goal.decreases-loop-i
decreases-loop-i g l = l.last - l.i
