-- `decimal::width` meets its contract: a digit is counted for each number that is divided. Assumes nothing.
use mathlib.Core.Path.{◌≡◌}
use Prim.Native.Nat.{◌+◌, ◌≤◌}
use lib.ListN.{length}
use Rattle.text.specs.Digits.{in_digits}
use Rattle.text_digits.proofs.decimal.width.Given as goal

abbrev pub invariant-loop-left : goal.invariant-loop-left
invariant-loop-left l = (l.w + length (in_digits l.left) ≡ 1 + length (in_digits l.n)) × (length (in_digits l.n) ≤ 20)

abbrev pub decreases-loop-left : goal.decreases-loop-left
decreases-loop-left l = l.left
