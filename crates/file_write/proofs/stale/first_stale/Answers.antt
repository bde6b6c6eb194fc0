-- `stale::first_stale` meets its contract. Assumes nothing.
use native.Mathlib.Omega.{arith}
use Rattle.file_write.proofs.Passing.{stale_late, stale_start, stale_first, stale_in, stale_clear, stale_gone, stale_group, stale_leaf, stale_less}
use Rattle.file_write.proofs.stale.first_stale.Goals as goal

pub overflow_add-i : goal.overflow_add-i
overflow_add-i c =
    omega (arith, stale_start _ _ _ _ c.requires)

pub loop-finer-init : goal.loop-finer-init
loop-finer-init c =
    (stale_first _ _ _ _ c.requires, tt)

pub bounds-run-i : goal.bounds-run-i
bounds-run-i c =
    stale_in _ _ _ _ c.requires _ _ c.loop-finer.invariant.0

pub returns-then-x-eq0 : goal.returns-then-x-eq0
returns-then-x-eq0 c =
    record {
      is = stale_clear _ _ _ _ c.requires _ _ c.loop-finer.invariant.0 _ c.from-x.ensures c.if-x-eq0.true;
      some = c.loop-finer.invariant.1;
    }

pub returns-then-is_gone : goal.returns-then-is_gone
returns-then-is_gone c =
    record {
      is = stale_gone _ _ _ _ c.requires _ _ c.loop-finer.invariant.0 _ c.from-x.ensures c.if-x-eq0.false _ c.is_gone.ensures c.if-is_gone.true;
      some = stale_late _ _ _ _ c.requires _ _ c.loop-finer.invariant.0;
    }

pub overflow_add-i-then-is_group : goal.overflow_add-i-then-is_group
overflow_add-i-then-is_group c =
    omega (arith, stale_in _ _ _ _ c.requires _ _ c.loop-finer.invariant.0, c.requires.within)

pub loop-finer-smaller-then-is_group : goal.loop-finer-smaller-then-is_group
loop-finer-smaller-then-is_group c =
    omega (arith, stale_in _ _ _ _ c.requires _ _ c.loop-finer.invariant.0)

pub loop-finer-preserved-then-is_group : goal.loop-finer-preserved-then-is_group
loop-finer-preserved-then-is_group c = (
  stale_group _ _ _ _ c.requires _ _ c.loop-finer.invariant.0 _ c.from-x.ensures c.if-x-eq0.false _ c.is_gone.ensures
      c.if-is_gone.false _ c.cell-kind.ensures _ c.is_group.ensures c.if-is_group.true,
  c.loop-finer.invariant.1,
)

pub noted-finer-requires : goal.noted-finer-requires
noted-finer-requires c = (
  omega (arith, stale_in _ _ _ _ c.requires _ _ c.loop-finer.invariant.0, c.requires.within),
  stale_late _ _ _ _ c.requires _ _ c.loop-finer.invariant.0,
  c.loop-finer.invariant.1,
)

pub overflow_add-i-else-is_group : goal.overflow_add-i-else-is_group
overflow_add-i-else-is_group c =
    omega (arith, stale_in _ _ _ _ c.requires _ _ c.loop-finer.invariant.0, c.requires.within)

pub after-i-requires : goal.after-i-requires
after-i-requires c =
    omega (arith, stale_in _ _ _ _ c.requires _ _ c.loop-finer.invariant.0, c.requires.within)

pub loop-finer-smaller : goal.loop-finer-smaller
loop-finer-smaller c =
    omega (
      arith,
      stale_in _ _ _ _ c.requires _ _ c.loop-finer.invariant.0,
      stale_less _ _ _ _ c.requires _ _ c.loop-finer.invariant.0 _ c.from-x.ensures c.if-x-eq0.false _ c.is_gone.ensures
          c.if-is_gone.false _ c.cell-kind.ensures _ c.is_group.ensures c.if-is_group.false _ c.after-i.ensures,
    )

pub loop-finer-preserved : goal.loop-finer-preserved
loop-finer-preserved c = (
  stale_leaf _ _ _ _ c.requires _ _ c.loop-finer.invariant.0 _ c.from-x.ensures c.if-x-eq0.false _ c.is_gone.ensures
      c.if-is_gone.false _ c.cell-kind.ensures _ c.is_group.ensures c.if-is_group.false _ c.after-i.ensures _ c.noted-finer.ensures.is,
  c.noted-finer.ensures.some,
)
