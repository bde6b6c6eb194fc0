-- `image_order::climbs` meets its contract. Assumes nothing.
use mathlib.Core.Path.{◌≡◌, refl, sym, ◌∙◌, ap}
use Prim.Native.Nat.{ℕ, ◌+◌, ◌-◌}
use native.Mathlib.Omega.{arith}
use Rattle.list.specs.tables.Table.{cell}
use Rattle.image.specs.mirror.Step.{beside, climbs}
use Rattle.image.proofs.next.Upward.{climbs_none, climbs_top, climbs_side, climbs_owed, climbs_up}
use Rattle.image_order.proofs.climbs.Goals as goal

pub loop-init : goal.loop-init
loop-init c =
    refl

pub returns-then-q-le1 : goal.returns-then-q-le1
returns-then-q-le1 c =
    sym (climbs_top c.args.rows.now c.args.x (16 - c.loop.counter) c.loop.q (omega (arith, c.loop-test.true)) c.if-q-le1.true) ∙ c.loop.invariant

pub returns-then-up-parent : goal.returns-then-up-parent
returns-then-up-parent c =
    let g = c.args in
    c.beside.ensures
    ∙ ap (λ p. beside g.rows.now p c.loop.q g.x) c.cell-parent.ensures
    ∙ sym (climbs_side g.rows.now g.x (16 - c.loop.counter) c.loop.q (omega (arith, c.loop-test.true)) c.if-q-le1.false (sym c.cell-up.ensures ∙ c.if-up-parent.true ∙ c.cell-parent.ensures))
    ∙ c.loop.invariant

pub returns-then-owed-ne0 : goal.returns-then-owed-ne0
returns-then-owed-ne0 c =
    sym
    (climbs_owed c.args.rows.now c.args.x (16 - c.loop.counter) c.loop.q (omega (arith, c.loop-test.true)) c.if-q-le1.false
    (λ e. c.if-up-parent.false (c.cell-up.ensures ∙ e ∙ sym c.cell-parent.ensures)) (λ e. c.if-owed-ne0.true (c.owed.ensures ∙ e))) ∙
    c.loop.invariant

pub loop-preserved : goal.loop-preserved
loop-preserved c =
    let g = c.args in
    let less : 16 - (c.loop.counter + 1) ≡ 16 - c.loop.counter - 1 = omega arith in
    rw c.cell-up.ensures
    (ap (λ (k : ℕ). climbs g.rows.now k (cell g.rows.now c.loop.q 0) g.x) less
    ∙ sym
    (climbs_up g.rows.now g.x (16 - c.loop.counter) c.loop.q (omega (arith, c.loop-test.true)) c.if-q-le1.false
    (λ e. c.if-up-parent.false (c.cell-up.ensures ∙ e ∙ sym c.cell-parent.ensures)) (sym c.owed.ensures ∙ omega (arith, c.if-owed-ne0.false)))
    ∙ c.loop.invariant)

pub returns : goal.returns
returns c =
    sym (climbs_none c.args.rows.now c.args.x (16 - c.loop.counter) c.loop.q (omega (arith, c.loop-test.false))) ∙ c.loop.invariant
