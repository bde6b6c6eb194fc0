-- `span::eights_end` meets its contract: what is still to come from `i` makes up the answer from `at`. Assumes nothing.
use Rattle.std.proofs.Common.{◌≡◌, ℕ, ◌+◌, ◌-◌, ◌≤◌, Bool, length, drop}
use Rattle.text.specs.Lists.{span}
use Rattle.text.specs.Little.{Loaded}
use Rattle.text.specs.mirror.Zeros.{Tells}
use Rattle.text.proofs.span.eights_end.Given as goal

abbrev pub invariant-loop-i : goal.invariant-loop-i
invariant-loop-i g l =
    (l.last + 7 ≡ length l.s)
    × ((p : ℕ → Bool) → ((i n d : ℕ) → i + 8 ≤ length l.s → Loaded 8 l.s i n → goal.F-post g l.others n d → Tells p l.s i d) → l.i + span p (drop l.i l.s) ≡ l.at + span p (drop l.at l.s))

abbrev pub decreases-loop-i : goal.decreases-loop-i
decreases-loop-i g l = length l.s - l.i
