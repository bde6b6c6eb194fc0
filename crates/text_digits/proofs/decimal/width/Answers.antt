-- `decimal::width` meets its contract: a digit is counted for each number that is divided. Assumes nothing.
use mathlib.Core.Path.{refl, ap}
use native.Mathlib.Omega.{arith}
use lib.ListN.{length}
use Rattle.text.proofs.Digits.{digits_one, length_more, length_some, length_word}
use Rattle.text_digits.proofs.decimal.width.Goals as goal

pub loop-left-init : goal.loop-left-init
loop-left-init c = (refl, length_word c.args.n c.ranges.n.fits)

pub overflow_add-w : goal.overflow_add-w
overflow_add-w c = omega (arith, length_some c.loop-left.left)

pub loop-left-smaller : goal.loop-left-smaller
loop-left-smaller c = omega arith

pub loop-left-preserved : goal.loop-left-preserved
loop-left-preserved c = (omega (arith, length_more c.loop-left.left (omega arith)), c.loop-left.invariant.1)

pub returns : goal.returns
returns c = let d = ap length (digits_one c.loop-left.left (omega arith)) in (omega arith, omega arith)
