-- `texts::reference` meets its contract: what was read from `at` to `i` is a reference, or more of one. Assumes nothing.
use native.Mathlib.Omega.{arith}
use Rattle.value_lane_texts.proofs.Runs.{slashed_start, slashed_more}
use Rattle.value_lane_texts.proofs.texts.reference.Goals as goal

pub returns-then-i-at : goal.returns-then-i-at
returns-then-i-at c = λ l. c.slow.ensures

pub loop-i-init : goal.loop-i-init
loop-i-init c = (omega (arith, c.run-i.ensures.0, c.if-i-at.false), λ l. slashed_start _ _ _ (c.run-i.ensures.1 l) c.if-i-at.false)

pub referred-requires : goal.referred-requires
referred-requires c = (c.loop-i.invariant.0, c.loop-i-test.true, c.if-b-eq60.true)

pub returns-then-b-eq60 : goal.returns-then-b-eq60
returns-then-b-eq60 c = λ l. c.referred.ensures (c.loop-i.invariant.1 l)

pub returns-then-b-ne47 : goal.returns-then-b-ne47
returns-then-b-ne47 c = λ l. c.slow-then-b-ne47.ensures

pub returns-then-j-i : goal.returns-then-j-i
returns-then-j-i c = λ l. c.slow-then-j-i.ensures

pub loop-i-smaller : goal.loop-i-smaller
loop-i-smaller c = omega (arith, c.run-j.ensures.0, c.loop-i-test.true)

pub loop-i-preserved : goal.loop-i-preserved
loop-i-preserved c = (
  omega (arith, c.loop-i.invariant.0, c.run-j.ensures.0),
  λ l. slashed_more _ _ _ _ (c.loop-i.invariant.1 l) c.loop-i-test.true c.if-b-ne47.false (c.run-j.ensures.1 l) (λ z. omega (arith, z, c.if-j-i.false)),
)

pub returns : goal.returns
returns c = λ l. c.slow-2.ensures
