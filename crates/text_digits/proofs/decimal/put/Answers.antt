-- `decimal::put` meets its contract: no digit stands after a point. Assumes nothing.
use native.Mathlib.Omega.{arith}
use Rattle.text.proofs.Digits.{length_word}
use Rattle.text_digits.proofs.decimal.put.Goals as goal

pub returns : goal.returns
returns c =
    let w = c.put_pointed.ensures in
    (w.0, (omega (arith, w.0, length_word c.args.n c.ranges.n.fits), w.1.1))
