-- `scan_all` stays within its texts, and goes on at each turn. Assumes nothing.
use Rattle.std.proofs.Common.{◌≤◌, ◌-◌, length}
use Rattle.gate_scans.proofs.scan_all.Given as goal

abbrev pub invariant-loop-i : goal.invariant-loop-i
invariant-loop-i g l = l.i ≤ length l.texts

abbrev pub decreases-loop-i : goal.decreases-loop-i
decreases-loop-i g l = length l.texts - l.i
