-- `fill::fill` meets its contract: what is done stands in the buffer, and what is left comes. Assumes nothing.
use native.Mathlib.Omega.{arith}
use borrow.Author.Rules.{rules}
use Rattle.file_fill.proofs.Filling.{Filling, fill_start, fill_bare, fill_stands, fill_in, fill_asked, end_long_lem, fill_ends, fill_again}
use Rattle.file_fill.proofs.Filling as law
use Rattle.file_fill.proofs.fill.fill.Goals as goal

pub loop-out-init : goal.loop-out-init
loop-out-init c = fill_start _ _ _ _ _ c.put_head-to.ensures.is.0

pub seek-found-requires : goal.seek-found-requires
seek-found-requires c =
    let pre = c.requires in (
      fill_stands _ _ _ _ _ _ pre c.put_head-to.ensures.is.1 _ _ _ _ c.loop-out.invariant _ c.blanks_end-less.ensures,
      fill_bare _ _ _ _ _ _ pre c.put_head-to.ensures.is.1 _ _ _ _ c.loop-out.invariant _ c.blanks_end-less.ensures,
      law.fill_low _ _ _ _ _ _ pre c.put_head-to.ensures.is.1 _ _ _ _ c.loop-out.invariant _ c.blanks_end-less.ensures,
    )

pub overflow_mul-info : goal.overflow_mul-info
overflow_mul-info c =
    let h = (fill_in _ _ _ _ _ _ c.requires c.put_head-to.ensures.is.1 _ _ _ _ c.loop-out.invariant _ c.blanks_end-less.ensures _ c.seek-found.ensures).1 in
    omega (arith, h, c.well_formed.0.0, c.well_formed.0.1)

pub overflow_add-info : goal.overflow_add-info
overflow_add-info c =
    let h = (fill_in _ _ _ _ _ _ c.requires c.put_head-to.ensures.is.1 _ _ _ _ c.loop-out.invariant _ c.blanks_end-less.ensures _ c.seek-found.ensures).1 in
    omega (arith, h, c.well_formed.0.0, c.well_formed.0.1)

pub offset_bounds-nodes-found : goal.offset_bounds-nodes-found
offset_bounds-nodes-found c =
    let h = (fill_in _ _ _ _ _ _ c.requires c.put_head-to.ensures.is.1 _ _ _ _ c.loop-out.invariant _ c.blanks_end-less.ensures _ c.seek-found.ensures).1 in
    omega (arith, h, c.well_formed.0.0, c.well_formed.0.1)

pub bounds-nodes-found : goal.bounds-nodes-found
bounds-nodes-found c =
    let pre = c.requires in
    let h = (fill_in _ _ _ _ _ _ pre c.put_head-to.ensures.is.1 _ _ _ _ c.loop-out.invariant _ c.blanks_end-less.ensures _ c.seek-found.ensures).1 in
    search rules

pub shape_of-out-then-info-eq-OVER : goal.shape_of-out-then-info-eq-OVER
shape_of-out-then-info-eq-OVER c =
    let pre = c.requires in
    end_long_lem _ _ _ _ _ _ pre c.put_head-to.ensures.is.1 _ _ _ _ c.loop-out.invariant _ c.blanks_end-less.ensures _ c.seek-found.ensures c.if-info-eq-OVER.true _ c.place.ensures

pub returns-then-info-eq-OVER : goal.returns-then-info-eq-OVER
returns-then-info-eq-OVER c =
    let pre = c.requires in
    fill_ends _ _ _ _ _ _ pre c.put_head-to.ensures.is.1 _ _ _ _ c.loop-out.invariant _ c.blanks_end-less.ensures _ c.seek-found.ensures c.if-info-eq-OVER.true _ c.place.ensures

pub put-past-requires : goal.put-past-requires
put-past-requires c =
    let pre = c.requires in
    fill_asked _ _ _ _ _ _ pre c.put_head-to.ensures.is.1 _ _ _ _ c.loop-out.invariant _ c.blanks_end-less.ensures _ c.seek-found.ensures c.if-info-eq-OVER.false

pub loop-out-smaller : goal.loop-out-smaller
loop-out-smaller c =
    let pre = c.requires in
    law.fill_less _ _ _ _ _ _ pre c.put_head-to.ensures.is.1 _ _ _ _ c.loop-out.invariant _ c.blanks_end-less.ensures _ c.seek-found.ensures c.if-info-eq-OVER.false _ _ _ c.put-past.ensures

pub loop-out-preserved : goal.loop-out-preserved
loop-out-preserved c =
    let pre = c.requires in
    fill_again _ _ _ _ _ _ pre c.put_head-to.ensures.is.1 _ _ _ _ c.loop-out.invariant _ c.blanks_end-less.ensures _ c.seek-found.ensures c.if-info-eq-OVER.false _ _ _ c.put-past.ensures
