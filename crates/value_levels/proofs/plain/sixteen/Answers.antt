-- `plain::sixteen` meets its contract: what was passed so far. Assumes nothing.
use mathlib.Core.Path.{sym, ◌∙◌}
use Rattle.text.proofs.Classes.{and_is}
use Rattle.value_levels.specs.mirror.Runs.{is_plain}
use Rattle.value_levels.proofs.Passing.{over_start, over_item, over_block}
use Rattle.value_levels.proofs.plain.sixteen.Goals as goal

pub loop-b-init : goal.loop-b-init
loop-b-init c = λ z. over_start _ _ _

pub loop-b-preserved : goal.loop-b-preserved
loop-b-preserved c = λ z.
    let x = and_is _ _ z in
    over_item is_plain _ _ 16 _ c.requires (c.loop-b.invariant x.0) c.loop-b-test.true (sym c.is_plain-all.ensures ∙ x.1)

pub returns : goal.returns
returns c = λ z. over_block is_plain _ _ 16 _ c.requires (c.loop-b.invariant z) c.loop-b.auto.b-index-end c.loop-b-test.false
