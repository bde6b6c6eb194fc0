-- `span::eights_end` meets its contract: what is still to come from `i` makes up the answer from `at`. Assumes nothing.
use Rattle.std.proofs.Common.{arith}
use Rattle.text.proofs.Eights.{few, eights_stop, eights_again}
use Rattle.text.proofs.span.eights_end.Goals as goal

pub overflow_add-result : goal.overflow_add-result
overflow_add-result g c = record { fits = omega (arith, few _ _ c.zeros.ensures) }

pub returns-then-d-ne0 : goal.returns-then-d-ne0
returns-then-d-ne0 g c p h =
    eights_stop p _ _ _ _ (h _ _ _ (omega (arith, c.loop-i.invariant.0, c.loop-i-test.true)) c.load8.ensures c.others-d.ensures) (c.loop-i.invariant.1 p h) _ c.zeros.ensures

pub loop-i-preserved : goal.loop-i-preserved
loop-i-preserved g c = (
  c.loop-i.invariant.0,
  λ p h. eights_again p _ _ _ _ (h _ _ _ (omega (arith, c.loop-i.invariant.0, c.loop-i-test.true)) c.load8.ensures c.others-d.ensures) (c.loop-i.invariant.1 p h) c.if-d-ne0.false,
)
