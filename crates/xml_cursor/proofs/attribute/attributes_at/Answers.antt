-- `attribute::attributes_at` meets its contract: what was counted, and what is still to come from `i`, make up the answer from `at`.
-- Assumes nothing.
use native.Mathlib.Omega.{arith}
use Rattle.xml_tags.proofs.Steps.{begin, again, stopped, one_more}
use Rattle.xml_cursor.proofs.attribute.attributes_at.Goals as goal

pub loop-a-init : goal.loop-a-init
loop-a-init c = begin _ _

pub returns-then-a : goal.returns-then-a
returns-then-a c =
    stopped _ _ _ _ _ c.loop-a.invariant c.attribute_at-a.ensures c.if-a.true

pub overflow_add-count : goal.overflow_add-count
overflow_add-count c =
    let w = again _ _ _ _ _ c.loop-a.invariant c.attribute_at-a.ensures c.if-a.false in
    omega (arith, w.within)

pub loop-a-smaller : goal.loop-a-smaller
loop-a-smaller c =
    let w = one_more _ _ _ c.attribute_at-a.ensures c.if-a.false in
    omega (arith, w.on, w.within)

pub loop-a-preserved : goal.loop-a-preserved
loop-a-preserved c =
    again _ _ _ _ _ c.loop-a.invariant c.attribute_at-a.ensures c.if-a.false
