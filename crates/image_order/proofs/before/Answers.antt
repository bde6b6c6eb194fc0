-- `image_order::before` meets its contract. Assumes nothing.
use borrow.Author.Tests.{eq-eqb, ne_eqb}
use Rattle.image.specs.mirror.Step.{before}
use Rattle.image_order.proofs.before.Goals as goal

pub returns-then-due-eq0 : goal.returns-then-due-eq0
unfolding before
returns-then-due-eq0 c =
    rw (eq-eqb c.args.due 0 c.if-due-eq0.true)

pub returns : goal.returns
unfolding before
returns c =
    rw (ne_eqb c.args.due 0 c.if-due-eq0.false)
