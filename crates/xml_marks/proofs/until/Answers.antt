-- `until` meets its contract: what is still to come from `i` makes up the answer from `at`. Assumes nothing.
use mathlib.Core.Path.{refl, ◌∙◌}
use native.Mathlib.Omega.{arith}
use Rattle.std.proofs.Common.{rules}
use Rattle.xml_tags.specs.Marks.{but}
use Rattle.xml_tags.proofs.Passing.{until_found, until_again}
use Rattle.xml_marks.proofs.until.Goals as goal

pub returns-then-s-lt-TURN : goal.returns-then-s-lt-TURN
returns-then-s-lt-TURN c = c.run_end.ensures (but c.args.b) (λ x r e. search rules)

pub loop-i-init : goal.loop-i-init
loop-i-init c = (omega (arith, c.if-s-lt-TURN.false), refl)

pub overflow_add-j : goal.overflow_add-j
overflow_add-j c = omega (arith, c.loop-i.invariant.0, c.loop-i-test.true)

pub overflow_add-k : goal.overflow_add-k
overflow_add-k c = omega (arith, c.loop-i.invariant.0, c.loop-i-test.true)

pub overflow_add-l : goal.overflow_add-l
overflow_add-l c = omega (arith, c.loop-i.invariant.0, c.loop-i-test.true)

pub returns-then-s-i : goal.returns-then-s-i
returns-then-s-i c = until_found _ _ _ _ c.loop-i.invariant.1 (omega (arith, c.loop-i.invariant.0, c.loop-i-test.true)) c.if-s-i.true

pub returns-then-s-j : goal.returns-then-s-j
returns-then-s-j c =
    until_found _ _ _ _
    (until_again _ _ _ _ c.loop-i.invariant.1 (omega (arith, c.loop-i.invariant.0, c.loop-i-test.true)) c.if-s-i.false)
    (omega (arith, c.loop-i.invariant.0, c.loop-i-test.true)) c.if-s-j.true

pub returns-then-s-k : goal.returns-then-s-k
returns-then-s-k c =
    until_found _ _ _ _
    (until_again _ _ _ _
    (until_again _ _ _ _ c.loop-i.invariant.1 (omega (arith, c.loop-i.invariant.0, c.loop-i-test.true)) c.if-s-i.false)
    (omega (arith, c.loop-i.invariant.0, c.loop-i-test.true)) c.if-s-j.false)
    (omega (arith, c.loop-i.invariant.0, c.loop-i-test.true)) c.if-s-k.true

pub returns-then-s-l : goal.returns-then-s-l
returns-then-s-l c =
    until_found _ _ _ _
    (until_again _ _ _ _
    (until_again _ _ _ _
    (until_again _ _ _ _ c.loop-i.invariant.1 (omega (arith, c.loop-i.invariant.0, c.loop-i-test.true)) c.if-s-i.false)
    (omega (arith, c.loop-i.invariant.0, c.loop-i-test.true)) c.if-s-j.false)
    (omega (arith, c.loop-i.invariant.0, c.loop-i-test.true)) c.if-s-k.false)
    (omega (arith, c.loop-i.invariant.0, c.loop-i-test.true)) c.if-s-l.true

pub overflow_add-i : goal.overflow_add-i
overflow_add-i c = omega (arith, c.loop-i.invariant.0, c.loop-i-test.true)

pub loop-i-smaller : goal.loop-i-smaller
loop-i-smaller c = omega (arith, c.loop-i.invariant.0, c.loop-i-test.true)

pub loop-i-preserved : goal.loop-i-preserved
loop-i-preserved c = (
  c.loop-i.invariant.0,
  (until_again _ _ _ _
      (until_again _ _ _ _
      (until_again _ _ _ _
      (until_again _ _ _ _ c.loop-i.invariant.1 (omega (arith, c.loop-i.invariant.0, c.loop-i-test.true)) c.if-s-i.false)
      (omega (arith, c.loop-i.invariant.0, c.loop-i-test.true)) c.if-s-j.false)
      (omega (arith, c.loop-i.invariant.0, c.loop-i-test.true)) c.if-s-k.false)
      (omega (arith, c.loop-i.invariant.0, c.loop-i-test.true)) c.if-s-l.false),
)

pub returns : goal.returns
returns c = c.run_end-2.ensures (but c.args.b) (λ x r e. search rules) ∙ c.loop-i.invariant.1
