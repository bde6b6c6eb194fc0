-- `blocks::blocks_end` meets its contract: what was passed so far. Assumes nothing.
use Rattle.value_levels.proofs.Passing.{over_none, over_then}
use Rattle.value_levels.proofs.blocks.blocks_end.Goals as goal

pub loop-i-init : goal.loop-i-init
loop-i-init g c = λ p h. over_none p _ _

pub loop-i-preserved : goal.loop-i-preserved
loop-i-preserved g c = λ p h. over_then p _ _ _ _ (c.loop-i.invariant p h) (h c.loop-i.i c.if-passes.ensures)
