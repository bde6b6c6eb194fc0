-- `answer_all` ends: the number of the case grows to its end.
use Rattle.std.proofs.Common.{◌-◌, ◌≡◌, length}
use Rattle.replay.proofs.answer_all.Given as goal

abbrev pub invariant-loop-number : goal.invariant-loop-number
invariant-loop-number g l =
    (length l.space ≡ 1048590) × (length l.buffer ≡ 1048576) × (length l.second ≡ 1048576) × (length l.line ≡ 4194369)
    × (length l.space ≡ length l.initial.space) × (length l.buffer ≡ length l.initial.buffer) × (length l.second ≡ length l.initial.second) × (length l.line ≡ length l.initial.line)

abbrev pub decreases-loop-number : goal.decreases-loop-number
decreases-loop-number g l = 18446744073709551615 - l.number
