-- `run::run_end` meets its contract. Assumes nothing.
use mathlib.Core.Path.{refl}
use native.Mathlib.Omega.{arith}
use Rattle.text.proofs.Spans.{span_end}
use Rattle.xml_pieces.specs.Kinds.{above}
use Rattle.xml_pieces.proofs.Lookups.{run_stop, run_go}
use Rattle.xml_pieces.proofs.run.run_end.Goals as goal

pub loop-i-init : goal.loop-i-init
loop-i-init c =
    refl

pub returns-then-classes-from : goal.returns-then-classes-from
returns-then-classes-from c =
    omega (
      arith,
      run_stop c.args.classes.now c.args.level c.args.s.now c.loop-i.i c.loop-i-test.true c.from.result c.from.ensures c.if-classes-from.true,
    )

pub loop-i-preserved : goal.loop-i-preserved
loop-i-preserved c =
    omega (
      arith,
      run_go c.args.classes.now c.args.level c.args.s.now c.loop-i.i c.loop-i-test.true c.from.result c.from.ensures c.if-classes-from.false,
    )

pub returns : goal.returns
returns c =
    omega (arith, span_end (above c.args.classes.now c.args.level) c.args.s.now c.loop-i.i c.loop-i-test.false)
