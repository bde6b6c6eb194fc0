-- `class::quiets` meets its contract: how many were of TEXT so far. Assumes nothing.
use mathlib.Core.Path.{sym, ◌∙◌}
use native.Mathlib.Omega.{arith}
use borrow.Author.Tests.{le-leb}
use Rattle.value_levels.specs.mirror.Levels.{reaches}
use Rattle.value_levels.proofs.Passing.{block_long}
use Rattle.value_levels.proofs.Levels.{counted_start, counted_item, counted_block}
use Rattle.value_levels.proofs.class.quiets.Goals as goal

pub loop-b-init : goal.loop-b-init
loop-b-init c = counted_start _ _ _

pub overflow_add-n : goal.overflow_add-n
overflow_add-n c =
    omega (arith, c.loop-b.invariant.most, c.quiet-n.ensures.0, c.loop-b-test.true, block_long c.args.at 16 c.args.s.now c.requires)

pub loop-b-preserved : goal.loop-b-preserved
loop-b-preserved c =
    counted_item (reaches 1) _ _ 16 _ _ _ c.requires c.loop-b.invariant c.loop-b-test.true c.quiet-n.ensures.0 (λ z. le-leb 1 _ (c.quiet-n.ensures.1 z))

pub returns : goal.returns
returns c = λ e. counted_block (reaches 1) _ _ 16 _ _ c.requires c.loop-b.invariant c.loop-b.auto.b-index-end c.loop-b-test.false (sym c.from.ensures ∙ e)
