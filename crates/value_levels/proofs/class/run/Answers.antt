-- `class::run` meets its contract: what was passed so far. Assumes nothing.
use Prim.Native.Nat.{ℕ}
use native.Mathlib.Omega.{arith}
use lib.Dec.{leb}
use lib.ListN.{get_or}
use Rattle.std.proofs.Common.{rules}
use Rattle.value_levels.proofs.Levels.{ran_none, ran_then, ran_four, ran_end, ran_ended}
use Rattle.value_levels.proofs.class.run.Goals as goal

pub loop-i-init : goal.loop-i-init
loop-i-init c = (omega arith, λ l. ran_none _ _ _)

pub returns-then-n-ne-TURN : goal.returns-then-n-ne-TURN
returns-then-n-ne-TURN c = (
  omega (arith, c.loop-i.invariant.0),
  λ l. ran_then _ _ _ _ _ (c.loop-i.invariant.1 l) (c.four-n.ensures.1 l),
  λ l. ran_end _ _ _ _ (ran_then _ _ _ _ _ (c.loop-i.invariant.1 l) (c.four-n.ensures.1 l)) (c.four-n.ensures.2 l c.if-n-ne-TURN.true),
)

pub loop-i-preserved : goal.loop-i-preserved
loop-i-preserved c = (omega (arith, c.loop-i.invariant.0), λ l. ran_four _ _ _ _ _ (c.loop-i.invariant.1 l) (c.four-n.ensures.1 l) c.if-n-ne-TURN.false)

pub returns : goal.returns
returns c =
    ran_ended c.args.levels.now c.args.least _ _ _ _ c.loop-i.invariant.0 c.loop-i.invariant.1 (c.run_end.ensures (λ (x : ℕ). leb c.args.least (get_or c.args.levels.now x 0)) (λ b r k. search rules))
