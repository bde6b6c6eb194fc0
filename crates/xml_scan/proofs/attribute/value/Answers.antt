-- `attribute::value` meets its contract. Assumes nothing.
use native.Mathlib.Omega.{arith}
use Rattle.std.proofs.lemmas.Result.{err_from_is_err_and}
use Rattle.xml_scan.proofs.names.Attributes.{valuing_none, value_cut, value_quote, value_stop, piece_on, valuing_on}
use Rattle.xml_scan.proofs.attribute.value.Goals as goal

pub loop-i-init : goal.loop-i-init
loop-i-init c =
    valuing_none _ _ _ c.requires.0

pub returns-then-s-i : goal.returns-then-s-i
returns-then-s-i c =
    value_quote _ _ _ _ c.requires.1 c.loop-i.invariant c.loop-i-test.true c.if-s-i.true

pub returns-in_err-i : goal.returns-in_err-i
returns-in_err-i c =
    let p = err_from_is_err_and c.from_residual.result c.from_residual.ensures.1 in
    rw (p.1, p.2) (value_stop _ _ _ _ c.requires.1 c.loop-i.invariant c.loop-i-test.true c.if-s-i.false c.piece.result
    c.piece.ensures _ c.in_err-i.was)

pub loop-i-smaller : goal.loop-i-smaller
loop-i-smaller c =
    let w = piece_on _ _ _ _ c.requires.1 c.loop-i.invariant c.loop-i-test.true c.if-s-i.false c.piece.result
    c.piece.ensures _ c.in_ok-i.was in
    omega (arith, w.0, w.1)

pub loop-i-preserved : goal.loop-i-preserved
loop-i-preserved c =
    valuing_on _ _ _ _ c.requires.1 c.loop-i.invariant c.loop-i-test.true c.if-s-i.false c.piece.result
    c.piece.ensures _ c.in_ok-i.was

pub returns : goal.returns
returns c =
    value_cut _ _ _ _ c.requires.1 c.loop-i.invariant c.loop-i-test.false
