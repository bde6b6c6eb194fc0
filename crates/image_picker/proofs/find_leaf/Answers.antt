-- `image_picker::find_leaf` meets its contract. Assumes nothing.
use mathlib.Core.Path.{refl}
use native.Mathlib.Omega.{arith}
use Rattle.image.specs.mirror.Ends.{item_end}
use Rattle.image.proofs.loops.PickerTurn.{seeks, seek_over, seek_end, seek_bad, seek_here, seek_past, seek_on}
use Rattle.image_picker.proofs.find_leaf.Goals as goal

pub loop-i-init : goal.loop-i-init
loop-i-init c =
    let g = c.args in
    seeks g.rows.now (item_end g.rows.now g.run.now) g.run.now g.from g.row g.n

pub returns-then-x-eq0-clause-is : goal.returns-then-x-eq0-clause-is
returns-then-x-eq0-clause-is c =
    let g = c.args in
    seek_end g.rows.now (item_end g.rows.now g.run.now) g.run.now g.from g.row g.n c.loop-i.left c.loop-i.i c.loop-i.invariant c.from-x.result c.loop-i-test.true c.from-x.ensures c.if-x-eq0.true

pub returns-in_err-end-clause-is : goal.returns-in_err-end-clause-is
returns-in_err-end-clause-is c =
    let g = c.args in
    rw c.from_residual.ensures
    (seek_bad g.rows.now (item_end g.rows.now g.run.now) g.run.now g.from g.row g.n c.loop-i.left c.loop-i.i c.loop-i.invariant c.from-x.result c.loop-i-test.true c.from-x.ensures 0 c.if-x-eq0.false c.in_err-end.ensures.is refl)

pub returns-then-left-eq0-clause-is : goal.returns-then-left-eq0-clause-is
returns-then-left-eq0-clause-is c =
    let g = c.args in
    seek_here g.rows.now (item_end g.rows.now g.run.now) g.run.now g.from g.row g.n c.loop-i.left c.loop-i.i c.loop-i.invariant c.from-x.result c.loop-i-test.true c.from-x.ensures c.in_ok-end.end
    c.if-x-eq0.false c.in_ok-end.ensures.is (λ e. omega (arith, e, c.in_ok-end.ensures.on)) c.if-x-row.true c.if-left-eq0.true

pub loop-i-preserved-else-left-eq0 : goal.loop-i-preserved-else-left-eq0
loop-i-preserved-else-left-eq0 c =
    let g = c.args in
    seek_past g.rows.now (item_end g.rows.now g.run.now) g.run.now g.from g.row g.n c.loop-i.left c.loop-i.i c.loop-i.invariant c.from-x.result c.loop-i-test.true c.from-x.ensures c.in_ok-end.end
    c.if-x-eq0.false c.in_ok-end.ensures.is (λ e. omega (arith, e, c.in_ok-end.ensures.on)) c.if-x-row.true c.if-left-eq0.false

pub loop-i-preserved : goal.loop-i-preserved
loop-i-preserved c =
    let g = c.args in
    seek_on g.rows.now (item_end g.rows.now g.run.now) g.run.now g.from g.row g.n c.loop-i.left c.loop-i.i c.loop-i.invariant c.from-x.result c.loop-i-test.true c.from-x.ensures c.in_ok-end.end
    c.if-x-eq0.false c.in_ok-end.ensures.is (λ e. omega (arith, e, c.in_ok-end.ensures.on)) c.if-x-row.false

pub returns-clause-is : goal.returns-clause-is
returns-clause-is c =
    let g = c.args in
    seek_over g.rows.now (item_end g.rows.now g.run.now) g.run.now g.from g.row g.n c.loop-i.left c.loop-i.i c.loop-i.invariant c.loop-i-test.false
