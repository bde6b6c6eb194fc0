-- `laned` meets its contract: what it put is the file's image. Assumes nothing.
use mathlib.Core.Path.{refl}
use native.Mathlib.Omega.{arith}
use Rattle.file_fill.proofs.Imaging.{seen_low, seen_fillable, seen_filled, laned_left}
use Rattle.file_fill.proofs.laned.Goals as goal

pub overflow_cast-kind : goal.overflow_cast-kind
overflow_cast-kind c =
    omega (arith, seen_low _ _ _ _ (c.in_ok-size.ensures _ c.in_ok-kind.ensures c.nodes_of-nodes.ensures))

pub fill-requires : goal.fill-requires
fill-requires c =
    seen_fillable _ _ _ _ (c.in_ok-size.ensures _ c.in_ok-kind.ensures c.nodes_of-nodes.ensures) _ _ c.nodes_of-nodes.ensures c.if-size-out.true

pub returns-then-size-out : goal.returns-then-size-out
returns-then-size-out c =
    seen_filled _ _ _ _ (c.in_ok-size.ensures _ c.in_ok-kind.ensures c.nodes_of-nodes.ensures) _ _ c.nodes_of-nodes.ensures c.if-size-out.true _ refl _ c.fill.ensures

pub returns-else-size-out : goal.returns-else-size-out
returns-else-size-out c =
    laned_left _ _ _ _ _ (c.in_ok-size.ensures _ c.in_ok-kind.ensures c.nodes_of-nodes.ensures) c.if-size-out.false
