-- `decimal::spread` meets its contract: the digits of a tenth, and the last digit after them. Assumes nothing.
use Rattle.std.proofs.Common.{ℕ, ◌/◌, ap, length, arith}
use Rattle.text.specs.Digits.{pointed}
use Rattle.text.proofs.Digits.{more_long, more_put}
use Rattle.text_digits.proofs.decimal.+spread.Goals as goal

pub spread-next-requires : goal.spread-next-requires
spread-next-requires t c =
    let l = more_long c.args.k c.args.n c.if-n-lt10.false in
    let e = ap (λ (j : ℕ). length (pointed j (c.args.n / 10))) c.fewer.ensures in
    (omega arith, omega (arith, c.requires))

pub spread_last-requires : goal.spread_last-requires
spread_last-requires t c =
    let l = more_long c.args.k c.args.n c.if-n-lt10.false in
    let e = ap (λ (j : ℕ). length (pointed j (c.args.n / 10))) c.fewer.ensures in
    (omega arith, omega (arith, c.requires, c.spread-next.ensures.0, c.spread-next.auto.buf))

pub returns : goal.returns
returns t c =
    let h = c.if-n-lt10.false in
    let l = more_long c.args.k c.args.n h in
    let f = c.fewer.ensures in
    let e = ap (λ (j : ℕ). length (pointed j (c.args.n / 10))) f in
    let r = c.spread-next in
    let z = c.spread_last in (
      omega (arith, r.ensures.0, z.ensures.0),
      rw (z.ensures.1, r.ensures.1, r.ensures.0, f) (more_put c.args.k c.args.n h c.args.buf.now c.args.at c.requires),
    )
