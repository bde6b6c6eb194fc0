-- `class::four` meets its contract: what was passed so far. Assumes nothing.
use mathlib.Core.Path.{refl}
use Prim.Native.Nat.{◌+◌}
use native.Mathlib.Omega.{arith}
use Rattle.value_levels.proofs.Levels.{ran_start, ran_more, ran_out, ran_all, looked, looked_below}
use Rattle.value_levels.proofs.class.four.Goals as goal

pub loop-j-init : goal.loop-j-init
loop-j-init c = λ l. ran_start _ _ _

pub returns-then-levels-from : goal.returns-then-levels-from
returns-then-levels-from c = (
  omega (arith, c.loop-j-test.true),
  c.loop-j.invariant,
  λ l n. ran_out c.args.least c.args.s.now (c.args.at + c.loop-j.j) (omega (arith, c.requires, c.loop-j-test.true)) (looked_below _ l _ _ _ c.from.ensures c.if-levels-from.true),
)

pub loop-j-preserved : goal.loop-j-preserved
loop-j-preserved c =
    λ l. ran_more c.args.least _ _ _ (c.loop-j.invariant l) (omega (arith, c.requires, c.loop-j-test.true)) (looked _ l _ _ _ c.from.ensures c.if-levels-from.false)

pub returns : goal.returns
returns c =
    (omega arith, λ l. ran_all _ _ _ _ 4 (c.loop-j.invariant l) c.loop-j.auto.j-end c.loop-j-test.false, λ l n. absurd (n refl))
