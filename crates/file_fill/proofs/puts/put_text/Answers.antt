-- `puts::put_text` meets its contract: what is done stands in the buffer, and what is left comes. Assumes nothing.
use mathlib.Core.Path.{refl}
use native.Mathlib.Omega.{arith}
use borrow.Author.Rules.{rules}
use Rattle.file_fill.proofs.Copying.{going_start, run_within, run_fits, run_above, end_long_lem, text_laid, len_some, more_fits, len_within, going_again}
use Rattle.file_fill.proofs.puts.put_text.Goals as goal

pub overflow_add-o : goal.overflow_add-o
overflow_add-o c = omega (arith, c.requires.room)

pub loop-out-init : goal.loop-out-init
loop-out-init c = going_start _ _ _ _

pub overflow_sub-o : goal.overflow_sub-o
overflow_sub-o c = omega (arith, c.plain_end-i.ensures)

pub overflow_add-o-in-loop-out : goal.overflow_add-o-in-loop-out
overflow_add-o-in-loop-out c =
    omega (arith, run_fits _ _ _ _ c.requires _ _ _ c.loop-out.invariant _ c.plain_end-i.ensures, c.well_formed.1.1.0.0)

pub bounds-s-i : goal.bounds-s-i
bounds-s-i c =
    let pre = c.requires in
    let h = run_within _ _ _ _ pre _ _ _ c.loop-out.invariant _ c.plain_end-i.ensures in
    search rules

pub overflow_sub-o-then-s-i-eq60 : goal.overflow_sub-o-then-s-i-eq60
overflow_sub-o-then-s-i-eq60 c =
    let pre = c.requires in
    omega (arith, run_above _ _ _ _ pre _ _ _ c.loop-out.invariant _ c.plain_end-i.ensures)

pub overflow_sub-o-then-s-i-eq60-2 : goal.overflow_sub-o-then-s-i-eq60-2
overflow_sub-o-then-s-i-eq60-2 c =
    let pre = c.requires in
    omega (arith, run_above _ _ _ _ pre _ _ _ c.loop-out.invariant _ c.plain_end-i.ensures)

pub overflow_cast-o : goal.overflow_cast-o
overflow_cast-o c = omega arith

pub shape_of-out-then-s-i-eq60 : goal.shape_of-out-then-s-i-eq60
shape_of-out-then-s-i-eq60 c =
    let pre = c.requires in
    end_long_lem _ _ _ _ pre _ _ _ c.loop-out.invariant _ c.plain_end-i.ensures _ c.copy.ensures c.if-s-i-eq60.true _ _ refl c.put16.ensures

pub returns-then-s-i-eq60 : goal.returns-then-s-i-eq60
returns-then-s-i-eq60 c =
    let pre = c.requires in
    text_laid _ _ _ _ pre _ _ _ c.loop-out.invariant _ c.plain_end-i.ensures _ c.copy.ensures c.if-s-i-eq60.true _ _ refl c.put16.ensures

pub overflow_cast-e : goal.overflow_cast-e
overflow_cast-e c = omega arith

pub overflow_add-o-in-loop-out-2 : goal.overflow_add-o-in-loop-out-2
overflow_add-o-in-loop-out-2 c =
    omega (arith, more_fits _ _ _ _ c.requires _ _ _ c.loop-out.invariant _ c.plain_end-i.ensures _ c.copy.ensures c.if-s-i-eq60.false _ c.entity_number-e.ensures, c.well_formed.1.1.0.0)

pub overflow_add-from : goal.overflow_add-from
overflow_add-from c =
    let pre = c.requires in
    omega (arith, len_within _ _ _ _ pre _ _ _ c.loop-out.invariant _ c.plain_end-i.ensures _ c.copy.ensures c.if-s-i-eq60.false _ c.entity_number-e.ensures)

pub loop-out-smaller : goal.loop-out-smaller
loop-out-smaller c =
    let pre = c.requires in
    omega (
      arith,
      len_within _ _ _ _ pre _ _ _ c.loop-out.invariant _ c.plain_end-i.ensures _ c.copy.ensures c.if-s-i-eq60.false _ c.entity_number-e.ensures,
      len_some _ _ _ _ pre _ _ _ c.loop-out.invariant _ c.plain_end-i.ensures _ c.copy.ensures c.if-s-i-eq60.false _ c.entity_number-e.ensures,
      run_within _ _ _ _ pre _ _ _ c.loop-out.invariant _ c.plain_end-i.ensures,
      c.plain_end-i.ensures,
    )

pub loop-out-preserved : goal.loop-out-preserved
loop-out-preserved c =
    let pre = c.requires in
    going_again _ _ _ _ pre _ _ _ c.loop-out.invariant _ c.plain_end-i.ensures _ c.copy.ensures c.if-s-i-eq60.false _ c.entity_number-e.ensures _ c.place.ensures
