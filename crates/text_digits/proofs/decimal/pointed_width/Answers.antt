-- `decimal::pointed_width` meets its contract: one byte more for the point, and a zero at least before it. Assumes nothing.
use native.Mathlib.Omega.{arith}
use Rattle.text.proofs.Digits.{wide}
use Rattle.text_digits.proofs.decimal.pointed_width.Goals as goal

pub returns-then-k-eq0 : goal.returns-then-k-eq0
returns-then-k-eq0 c =
    let w = (wide c.args.k c.args.n).none c.if-k-eq0.true in
    (omega (arith, c.width-w.ensures.0), omega (arith, c.width-w.ensures.1))

pub returns-then-places-w : goal.returns-then-places-w
returns-then-places-w c =
    let w = (wide c.args.k c.args.n).within (omega (arith, c.if-k-eq0.false)) (omega (arith, c.width-w.ensures.0, c.if-places-w.true)) in
    (omega (arith, c.width-w.ensures.0), omega (arith, c.width-w.ensures.1))

pub returns : goal.returns
returns c =
    let w = (wide c.args.k c.args.n).beyond (omega (arith, c.if-k-eq0.false)) (omega (arith, c.width-w.ensures.0, c.if-places-w.false)) in
    (omega arith, omega (arith, c.ranges.k.fits))
