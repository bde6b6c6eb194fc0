-- `image_order::rests` meets its contract. Assumes nothing.
use mathlib.Core.Path.{◌≡◌, refl, sym, ◌∙◌, ap}
use Prim.Native.Nat.{ℕ, ◌+◌, ◌-◌}
use native.Mathlib.Omega.{arith}
use Rattle.list.specs.tables.Table.{cell}
use Rattle.image.specs.mirror.Step.{rests}
use Rattle.image.proofs.next.Upward.{rests_none, rests_top, rests_owed, rests_up}
use Rattle.image_order.proofs.rests.Goals as goal

pub loop-init : goal.loop-init
loop-init c =
    refl

pub returns-then-q-le1 : goal.returns-then-q-le1
returns-then-q-le1 c =
    sym (rests_top c.args.rows.now (16 - c.loop.counter) c.loop.q (omega (arith, c.loop-test.true)) c.if-q-le1.true) ∙ c.loop.invariant

pub returns-then-owed-ne0 : goal.returns-then-owed-ne0
returns-then-owed-ne0 c =
    sym (rests_owed c.args.rows.now (16 - c.loop.counter) c.loop.q (omega (arith, c.loop-test.true)) c.if-q-le1.false (λ e. c.if-owed-ne0.true (c.owed.ensures ∙ e))) ∙ c.loop.invariant

pub loop-preserved : goal.loop-preserved
loop-preserved c =
    let less : 16 - (c.loop.counter + 1) ≡ 16 - c.loop.counter - 1 = omega arith in
    rw c.cell-q.ensures
    (ap (λ (k : ℕ). rests c.args.rows.now k (cell c.args.rows.now c.loop.q 0)) less
    ∙ sym
    (rests_up c.args.rows.now (16 - c.loop.counter) c.loop.q (omega (arith, c.loop-test.true)) c.if-q-le1.false
    (sym c.owed.ensures ∙ omega (arith, c.if-owed-ne0.false)))
    ∙ c.loop.invariant)

pub returns : goal.returns
returns c =
    sym (rests_none c.args.rows.now (16 - c.loop.counter) c.loop.q (omega (arith, c.loop-test.false))) ∙ c.loop.invariant
