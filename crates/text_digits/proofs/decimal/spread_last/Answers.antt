-- `decimal::spread_last` meets its contract. Assumes nothing.
use mathlib.Core.Path.{ap}
use native.Mathlib.Omega.{arith}
use lib.ListN.{length-set, length}
use Rattle.text.proofs.Digits.{last_one, last_other, last_room, last_put, other_room, other_put}
use Rattle.text_digits.proofs.decimal.spread_last.Goals as goal

pub bounds-buf-at : goal.bounds-buf-at
bounds-buf-at c =
    omega (arith, last_room c.args.buf.now c.args.at c.args.k c.args.d c.requires.1 c.if-k-eq1.true)

pub bounds-buf-at-then-k-eq1 : goal.bounds-buf-at-then-k-eq1
bounds-buf-at-then-k-eq1 c =
    omega (arith, last_room c.args.buf.now c.args.at c.args.k c.args.d c.requires.1 c.if-k-eq1.true, length-set c.args.buf.now c.args.at 46)

pub returns-then-k-eq1 : goal.returns-then-k-eq1
returns-then-k-eq1 c =
    (omega (arith, ap length (last_one c.args.k c.args.d c.if-k-eq1.true)), rw c.digit.ensures (last_put _ _ _ _ c.requires.1 c.if-k-eq1.true))

pub bounds-buf-at-2 : goal.bounds-buf-at-2
bounds-buf-at-2 c =
    omega (arith, other_room c.args.buf.now c.args.at c.args.k c.args.d c.requires.1 c.if-k-eq1.false)

pub returns : goal.returns
returns c =
    (omega (arith, ap length (last_other c.args.k c.args.d c.if-k-eq1.false)), rw c.digit-2.ensures (other_put _ _ _ _ c.requires.1 c.if-k-eq1.false))
