-- `slow::is_cut` meets its contract: no `]]>` begins before `i`. Assumes nothing.
use mathlib.Core.Path.{sym, ◌∙◌}
use Rattle.value_leaf.proofs.Ends.{passed_none, passed_more, passed_end, passed_met}
use Rattle.value_leaf.proofs.slow.is_cut.Goals as goal

pub loop-i-init : goal.loop-i-init
loop-i-init c = passed_none _

pub returns-then-begins : goal.returns-then-begins
returns-then-begins c = passed_met _ _ c.loop-i.invariant (sym c.begins.ensures ∙ c.if-begins.true)

pub loop-i-preserved : goal.loop-i-preserved
loop-i-preserved c = passed_more _ _ c.loop-i.invariant (sym c.begins.ensures ∙ c.if-begins.false)

pub returns : goal.returns
returns c = passed_end _ _ c.loop-i.invariant c.loop-i-test.false
