-- `to_text::put_fraction` meets its contract: which fraction it is follows from the tests that were met. Assumes nothing.
use Prim.Native.Nat.{◌/◌}
use native.Mathlib.Omega.{arith}
use Rattle.value.proofs.script.Moments.{one_of, two_of, three_of, six_of, fraction_none, fraction_put}
use Rattle.value_dates_put.proofs.to_text.put_fraction.Goals as goal

pub returns-then-u-eq0 : goal.returns-then-u-eq0
returns-then-u-eq0 c =
    fraction_none c.args.u c.args.buf.now c.args.at c.if-u-eq0.true

pub returns-then-u-eq0-2 : goal.returns-then-u-eq0-2
returns-then-u-eq0-2 c =
    let e = one_of c.args.u c.if-u-eq0.false c.if-u-eq0-2.true in
    fraction_put c.args.u c.args.buf.now c.args.at 1 (c.args.u / 100000) _ _ e (omega arith) c.put_places.ensures

pub returns-then-u-eq0-3 : goal.returns-then-u-eq0-3
returns-then-u-eq0-3 c =
    let e = two_of c.args.u c.if-u-eq0.false c.if-u-eq0-2.false c.if-u-eq0-3.true in
    fraction_put c.args.u c.args.buf.now c.args.at 2 (c.args.u / 10000) _ _ e (omega arith) c.put_places-then-u-eq0-3.ensures

pub returns-then-u-eq0-4 : goal.returns-then-u-eq0-4
returns-then-u-eq0-4 c =
    let e = three_of c.args.u c.if-u-eq0.false c.if-u-eq0-2.false c.if-u-eq0-3.false c.if-u-eq0-4.true in
    fraction_put c.args.u c.args.buf.now c.args.at 3 (c.args.u / 1000) _ _ e (omega arith) c.put_places-then-u-eq0-4.ensures

pub returns : goal.returns
returns c =
    let e = six_of c.args.u c.if-u-eq0.false c.if-u-eq0-2.false c.if-u-eq0-3.false c.if-u-eq0-4.false in
    fraction_put c.args.u c.args.buf.now c.args.at 6 c.args.u _ _ e (omega arith) c.put_places-2.ensures
