-- `held::read_at` meets its contract. Assumes nothing.
use mathlib.Core.Path.{sym}
use native.Mathlib.Omega.{arith}
use Rattle.image_hold.proofs.Holding.{step_stays, step_on, step_room}
use Rattle.image_hold.proofs.held.read_at.Goals as goal

pub returns-then-a-ne-ACCEPTED : goal.returns-then-a-ne-ACCEPTED
returns-then-a-ne-ACCEPTED c =
    step_stays _ _ _ (rw (sym c.rest.ensures.is) c.read-a.ensures) c.if-a-ne-ACCEPTED.true

pub overflow_add-result : goal.overflow_add-result
overflow_add-result c =
    omega (arith, step_room c.args.run.now c.args.at c.read-a.result (rw (sym c.rest.ensures.is) c.read-a.ensures) (omega (arith, c.if-a-ne-ACCEPTED.false)))

pub returns : goal.returns
returns c =
    step_on _ _ _ (rw (sym c.rest.ensures.is) c.read-a.ensures) (omega (arith, c.if-a-ne-ACCEPTED.false))
