-- `write_part` is safe and ends: each byte moves the place on.
use Rattle.std.proofs.Common.{length, ◌-◌, ◌≤◌, ◌<◌, ◌^◌}
use Rattle.gate_runs.proofs.write_part.Given as goal

abbrev pub invariant-loop-i : goal.invariant-loop-i
invariant-loop-i g l = (l.i ≤ length l.part) × (length l.part < 2 ^ 63)

abbrev pub decreases-loop-i : goal.decreases-loop-i
decreases-loop-i g l = length l.part - l.i
