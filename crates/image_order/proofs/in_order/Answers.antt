-- `image_order::in_order` meets its contract. Assumes nothing.
use borrow.Author.Tests.{eq-eqb, ne_eqb}
use Rattle.image.specs.mirror.Step.{in_order}
use Rattle.image_order.proofs.in_order.Goals as goal

pub returns-then-q-x : goal.returns-then-q-x
unfolding in_order
returns-then-q-x c =
    rw (eq-eqb c.args.q c.args.x c.if-q-x.true) c.again.ensures

pub returns : goal.returns
unfolding in_order
returns c =
    rw (ne_eqb c.args.q c.args.x c.if-q-x.false)
