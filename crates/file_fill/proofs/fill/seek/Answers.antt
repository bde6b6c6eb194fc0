-- `fill::seek` meets its contract: a run from the start is a run from here. Assumes nothing.
use mathlib.Core.Path.{refl}
use native.Mathlib.Omega.{arith}
use borrow.Author.Rules.{rules}
use Rattle.value.proofs.given.Putting.{fits}
use Rattle.file_fill.proofs.Filling.{alone, stand_found, stand_next, next_less, unfit}
use Rattle.file_fill.proofs.fill.seek.Goals as goal

pub overflow_mul-from : goal.overflow_mul-from
overflow_mul-from c = let h = c.requires.0.1.is.1 in search rules

pub overflow_add-from : goal.overflow_add-from
overflow_add-from c = let h = c.requires.0.1.is.1 in search rules

pub offset_bounds-nodes-from : goal.offset_bounds-nodes-from
offset_bounds-nodes-from c = let h = c.requires.0.1.is.1 in search rules

pub bounds-nodes-from : goal.bounds-nodes-from
bounds-nodes-from c = let h = c.requires.0.1.is.1 in search rules

pub returns-then-nodes-from-eq0 : goal.returns-then-nodes-from-eq0
returns-then-nodes-from-eq0 c = λ bs w. alone _ _ _ _ _ c.requires.1 w c.if-nodes-from-eq0.true

pub eight-x-requires : goal.eight-x-requires
eight-x-requires c = omega (arith, c.requires.2)

pub overflow_add-at : goal.overflow_add-at
overflow_add-at c = omega (arith, c.requires.2)

pub eight-y-requires : goal.eight-y-requires
eight-y-requires c = omega (arith, c.requires.2)

pub loop-n-init : goal.loop-n-init
loop-n-init c = λ bs w. w

pub is_tag-requires : goal.is_tag-requires
is_tag-requires c =
    let pre = c.requires in
    omega (arith, (c.loop-n.invariant pre.0.0 pre.0.1).is.1)

pub overflow_mul-n : goal.overflow_mul-n
overflow_mul-n c =
    let pre = c.requires in
    let h = (c.loop-n.invariant pre.0.0 pre.0.1).is.1 in
    search rules

pub overflow_add-n : goal.overflow_add-n
overflow_add-n c =
    let pre = c.requires in
    let h = (c.loop-n.invariant pre.0.0 pre.0.1).is.1 in
    search rules

pub offset_bounds-nodes-n : goal.offset_bounds-nodes-n
offset_bounds-nodes-n c =
    let pre = c.requires in
    let h = (c.loop-n.invariant pre.0.0 pre.0.1).is.1 in
    search rules

pub bounds-nodes-n : goal.bounds-nodes-n
bounds-nodes-n c =
    let pre = c.requires in
    let h = (c.loop-n.invariant pre.0.0 pre.0.1).is.1 in
    search rules

pub loop-n-smaller : goal.loop-n-smaller
loop-n-smaller c =
    let pre = c.requires in
    next_less _ _ _ _ _ pre.1 (c.loop-n.invariant pre.0.0 pre.0.1) _ _ c.eight-x.ensures c.eight-y.ensures (unfit _ c.is_tag.ensures c.loop-n-test.true-raw) _ refl

pub loop-n-preserved : goal.loop-n-preserved
loop-n-preserved c =
    let pre = c.requires in
    λ bs w. stand_next _ _ _ _ _ pre.1 (c.loop-n.invariant bs w) _ _ c.eight-x.ensures c.eight-y.ensures (unfit _ c.is_tag.ensures c.loop-n-test.true-raw) _ refl

pub returns : goal.returns
returns c =
    let pre = c.requires in
    λ bs w. stand_found _ _ _ _ _ pre.1 (c.loop-n.invariant bs w) _ _ c.eight-x.ensures c.eight-y.ensures (fits _ c.is_tag.ensures c.loop-n-test.false-raw)
