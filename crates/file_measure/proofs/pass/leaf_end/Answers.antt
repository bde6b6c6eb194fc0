-- `pass::leaf_end` meets its contract. Assumes nothing.
use mathlib.Core.Path.{refl}
use mathlib.Core.List.{[]}
use native.Mathlib.Omega.{arith}
use Rattle.text.proofs.Puts.{pasted_nowhere}
use Rattle.file_measure.proofs.Leaf.{shuts_group, shuts_none, shuts_some}
use Rattle.file_measure.proofs.Value.{leaf_kind}
use Rattle.file_measure.proofs.pass.leaf_end.Goals as goal

pub returns-then-is_group : goal.returns-then-is_group
returns-then-is_group c =
    shuts_group _ _ _ c.cell-kind.ensures _ c.is_group.ensures _ _ _ _ _ _ c.if-is_group.true

pub value_size-requires : goal.value_size-requires
value_size-requires c =
    (c.cell-kind.ensures, leaf_kind _ _ c.is_group.ensures c.if-is_group.false)

pub returns-in_err-n : goal.returns-in_err-n
returns-in_err-n c =
    rw c.from_residual.ensures (shuts_none _ _ _ c.cell-kind.ensures _ c.is_group.ensures _ _ _ _ _ _ c.if-is_group.false _ refl _ (pasted_nowhere _ _) _ ((rw (c.part_of.ensures, c.in_err-n.was) at c.value_size.ensures) _ _))

pub overflow_add-result-2 : goal.overflow_add-result-2
overflow_add-result-2 c =
    omega (arith, (c.in_ok-n.ensures [] 0).most, c.requires)

pub returns : goal.returns
returns c =
    shuts_some _ _ _ c.cell-kind.ensures _ c.is_group.ensures _ _ _ _ _ _ c.if-is_group.false _ refl _ (pasted_nowhere _ _) _ _ ((rw (c.part_of.ensures, c.in_ok-n.was) at c.value_size.ensures) _ _)
