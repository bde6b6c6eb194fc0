-- `decimal::spread_first` meets its contract. Assumes nothing.
use mathlib.Core.Path.{◌∙◌, ap}
use Prim.Native.Nat.{ℕ, ◌<◌}
use native.Mathlib.Omega.{arith}
use lib.ListN.{length}
use Rattle.text.specs.Digits.{pointed}
use Rattle.text.proofs.Digits.{single_room, single_put, first_long, first_put, digits_one}
use Rattle.text_digits.proofs.decimal.spread_first.Goals as goal

pub bounds-buf-at : goal.bounds-buf-at
bounds-buf-at c =
    omega (arith, single_room c.args.buf.now c.args.at c.args.k c.args.n c.requires.0 c.requires.1 c.if-k-eq0.true)

pub returns-then-k-eq0 : goal.returns-then-k-eq0
returns-then-k-eq0 c =
    let w = single_put c.args.buf.now c.args.at c.args.k c.args.n c.requires.0 c.requires.1 c.if-k-eq0.true in
    let l = ap (λ (j : ℕ). length (pointed j c.args.n)) c.if-k-eq0.true ∙ ap length (digits_one c.args.n c.requires.0) in
    (omega arith, rw c.digit.ensures w)

pub returns : goal.returns
returns c =
    let z : 0 < c.args.k = omega (arith, c.if-k-eq0.false) in
    let l = first_long c.args.buf.now c.args.at c.args.k c.args.n c.requires.0 c.requires.1 z in
    let w = first_put c.args.buf.now c.args.at c.args.k c.args.n c.requires.0 c.requires.1 z in
    (omega arith, rw (c.pad.ensures, c.copy.ensures) w)
