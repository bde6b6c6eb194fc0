-- `fill::put` meets its contract. Assumes nothing.
use mathlib.Core.Path.{refl}
use native.Mathlib.Omega.{arith}
use borrow.Author.Rules.{rules}
use Rattle.file_fill.proofs.Filling.{turn_within, turn_shut, turn_room, turn_group, leaf_asked, turn_leaf, went_within}
use Rattle.file_fill.proofs.fill.put.Goals as goal

pub overflow_mul-k : goal.overflow_mul-k
overflow_mul-k c =
    omega (arith, c.requires.meets.stands.is.1, c.well_formed.0.0, c.well_formed.0.1)

pub overflow_add-info : goal.overflow_add-info
overflow_add-info c =
    omega (arith, c.requires.meets.stands.is.1, c.well_formed.0.0, c.well_formed.0.1)

pub offset_bounds-nodes-k : goal.offset_bounds-nodes-k
offset_bounds-nodes-k c =
    omega (arith, c.requires.meets.stands.is.1, c.well_formed.0.0, c.well_formed.0.1)

pub bounds-nodes-k : goal.bounds-nodes-k
bounds-nodes-k c =
    let pre = c.requires in
    let h = pre.meets.stands.is.1 in
    search rules

pub overflow_add-from : goal.overflow_add-from
overflow_add-from c =
    let pre = c.requires in
    omega (arith, turn_within _ _ _ _ _ pre.meets pre.on, pre.small)

pub overflow_add-result : goal.overflow_add-result
overflow_add-result c =
    let pre = c.requires in
    omega (arith, turn_within _ _ _ _ _ pre.meets pre.on, pre.small)

pub returns-then-info-eq0 : goal.returns-then-info-eq0
returns-then-info-eq0 c = λ bs m. turn_shut _ _ _ _ bs m c.requires.on _ refl _ _ c.if-info-eq0.true

pub overflow_add-result-then-kind-lt2 : goal.overflow_add-result-then-kind-lt2
overflow_add-result-then-kind-lt2 c =
    omega (arith, turn_room _ _ _ _ _ c.requires.meets c.requires.on c.if-info-eq0.false _ _ c.requires.room, c.well_formed.1.1.1.1.0.0)

pub overflow_add-result-then-kind-lt2-2 : goal.overflow_add-result-then-kind-lt2-2
overflow_add-result-then-kind-lt2-2 c =
    let pre = c.requires in
    omega (arith, turn_within _ _ _ _ _ pre.meets pre.on, pre.small)

pub returns-then-kind-lt2 : goal.returns-then-kind-lt2
returns-then-kind-lt2 c = λ bs m. turn_group _ _ _ _ bs m c.requires.on _ refl _ _ c.if-info-eq0.false _ _ refl c.place.ensures c.if-kind-lt2.true

pub overflow_add-to : goal.overflow_add-to
overflow_add-to c =
    omega (arith, turn_room _ _ _ _ _ c.requires.meets c.requires.on c.if-info-eq0.false _ _ c.requires.room, c.well_formed.1.1.1.1.0.0)

pub put_value-value-requires : goal.put_value-value-requires
put_value-value-requires c =
    let pre = c.requires in
    leaf_asked _ _ _ _ _ pre.meets pre.on _ refl _ _ c.if-info-eq0.false _ _ refl c.place.ensures c.if-kind-lt2.false pre.meets.stands.is.1 pre.small pre.room

pub overflow_add-result-2 : goal.overflow_add-result-2
overflow_add-result-2 c =
    let pre = c.requires in
    let went = turn_leaf _ _ _ _ _ pre.meets pre.on _ refl _ _ c.if-info-eq0.false _ _ refl c.place.ensures c.if-kind-lt2.false _ _ _ c.put_value-value.ensures in
    omega (arith, went_within _ _ _ _ _ _ _ _ _ _ went, pre.small)

pub returns : goal.returns
returns c =
    λ bs m. turn_leaf _ _ _ _ bs m c.requires.on _ refl _ _ c.if-info-eq0.false _ _ refl c.place.ensures c.if-kind-lt2.false _ _ _
    c.put_value-value.ensures
