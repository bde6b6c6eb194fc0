-- `run::run_end` meets its contract: what is still to come from `i` makes up the answer from `at`. Assumes nothing.
use Rattle.std.proofs.Common.{◌≡◌, ◌+◌, ◌≤◌, length, drop, ap, not, arith}
use Rattle.text.specs.Lists.{span}
use Rattle.text.proofs.Spans.{span_over, span_found, span_again, span_end}
use Rattle.text.proofs.run.run_end.Goals as goal

pub returns-then-not-class : goal.returns-then-not-class
returns-then-not-class g c p h =
    span_found p _ _ _ (c.loop-i.invariant p h) c.loop-i-test.true (h _ _ c.class.ensures) (ap not c.if-not-class.true)

pub loop-i-preserved : goal.loop-i-preserved
loop-i-preserved g c p h =
    span_again p _ _ _ (c.loop-i.invariant p h) c.loop-i-test.true (h _ _ c.class.ensures) (ap not c.if-not-class.false)

pub returns : goal.returns
returns g c p h =
    let n = c.args.at + span p (drop c.args.at c.args.s.now) in
    let here : c.loop-i.i ≡ n = span_over p _ _ _ (c.loop-i.invariant p h) c.loop-i-test.false in
    let past : length c.args.s.now ≤ c.args.at → span p (drop c.args.at c.args.s.now) ≡ 0 = span_end p _ _ in
    grind (arith, c.max.ensures, here, past)
