-- `emit::emit` meets its contract. Assumes nothing.
use native.Mathlib.Omega.{arith}
use mathlib.Core.Path.{◌≡◌, refl, ◌∙◌, subst}
use mathlib.Core.List.{List}
use Prim.Native.Nat.{ℕ}
use Rattle.std.proofs.Common.{rules}
use Rattle.file_write.specs.mirror.Emit.{Emits}
use Rattle.file_write.proofs.Emitting.{held_start, held_first, held_in, held_open, held_end, held_low, held_group, held_less, held_leaf}
use Rattle.file_write.proofs.emit.emit.Goals as goal

pub overflow_add-i : goal.overflow_add-i
overflow_add-i c =
    omega (arith, held_start _ _ _ _ c.requires)

pub root-requires : goal.root-requires
root-requires c =
    (c.requires.small, omega arith)

pub loop-w-init : goal.loop-w-init
loop-w-init c =
    (held_first _ _ _ _ c.requires _ _ _ c.root.ensures.0, refl)

pub bounds-run-i : goal.bounds-run-i
bounds-run-i c =
    held_in _ _ _ _ c.requires _ _ _ _ _ _ c.loop-w.invariant.0

pub close_to-requires : goal.close_to-requires
close_to-requires c =
    held_open _ _ _ _ c.requires _ _ _ _ _ _ c.loop-w.invariant.0

pub returns-then-x-eq0 : goal.returns-then-x-eq0
returns-then-x-eq0 c =
    let kept = c.close_to.ensures.1 ∙ c.loop-w.invariant.1 ∙ c.root.ensures.1 in
    let same : c.close_to.new.w.out.now ≡ c.out-1.given.0 = search rules in
    subst (λ (d : List ℕ). Emits c.args.rows.now c.args.pool.now c.args.run.now c.args.from c.args.out.now c.close_to.new.w.at d) same
    (held_end _ _ _ _ c.requires _ _ _ _ _ _ c.loop-w.invariant.0 _ c.from-x.ensures c.if-x-eq0.true _ c.root.ensures.0
    _ _ c.close_to.ensures.0)

pub close_to-requires-in-loop-w : goal.close_to-requires-in-loop-w
close_to-requires-in-loop-w c =
    held_open _ _ _ _ c.requires _ _ _ _ _ _ c.loop-w.invariant.0

pub open-requires : goal.open-requires
open-requires c =
    (c.requires.small, omega (arith, held_low _ _ _ _ c.requires _ _ _ _ _ _ c.loop-w.invariant.0 _ c.from-x.ensures c.if-x-eq0.false _ c.cell-around.ensures _ _ c.close_to-in-loop-w.ensures.0))

pub loop-w-preserved-then-is_group : goal.loop-w-preserved-then-is_group
loop-w-preserved-then-is_group c = (
  held_group _ _ _ _ c.requires _ _ _ _ _ _ c.loop-w.invariant.0 _ c.from-x.ensures c.if-x-eq0.false _ c.cell-around.ensures _ _ c.close_to-in-loop-w.ensures.0
      _ c.cell-kind.ensures _ c.is_group.ensures c.if-is_group.true _ _ c.open.ensures.0,
  c.open.ensures.1 ∙ c.close_to-in-loop-w.ensures.1 ∙ c.loop-w.invariant.1,
)

pub put_leaf-requires : goal.put_leaf-requires
put_leaf-requires c = (
  c.requires.small,
  omega (arith, held_in _ _ _ _ c.requires _ _ _ _ _ _ c.loop-w.invariant.0, c.requires.within),
  omega (arith, held_low _ _ _ _ c.requires _ _ _ _ _ _ c.loop-w.invariant.0 _ c.from-x.ensures c.if-x-eq0.false _ c.cell-around.ensures _ _ c.close_to-in-loop-w.ensures.0),
)

pub loop-w-smaller : goal.loop-w-smaller
loop-w-smaller c =
    let less =
    held_less _ _ _ _ c.requires _ _ _ _ _ _ c.loop-w.invariant.0 _ c.from-x.ensures c.if-x-eq0.false _ c.cell-around.ensures _ _ c.close_to-in-loop-w.ensures.0
    _ c.cell-kind.ensures _ c.is_group.ensures c.if-is_group.false _ c.after-i.ensures in
    omega (arith, held_in _ _ _ _ c.requires _ _ _ _ _ _ c.loop-w.invariant.0, less)

pub loop-w-preserved : goal.loop-w-preserved
loop-w-preserved c = (
  held_leaf _ _ _ _ c.requires _ _ _ _ _ _ c.loop-w.invariant.0 _ c.from-x.ensures c.if-x-eq0.false _ c.cell-around.ensures _ _ c.close_to-in-loop-w.ensures.0
      _ c.cell-kind.ensures _ c.is_group.ensures c.if-is_group.false _ c.after-i.ensures _ _ c.put_leaf.ensures.0,
  c.put_leaf.ensures.1 ∙ c.close_to-in-loop-w.ensures.1 ∙ c.loop-w.invariant.1,
)
