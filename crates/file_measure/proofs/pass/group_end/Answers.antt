-- `pass::group_end` meets its contract. Assumes nothing.
use mathlib.Core.Path.{refl}
use Rattle.text.proofs.Puts.{pasted_nowhere}
use Rattle.file_measure.proofs.Leaf.{opens_group, opens_leaf}
use Rattle.file_measure.proofs.pass.group_end.Goals as goal

pub returns-then-is_group : goal.returns-then-is_group
returns-then-is_group c =
    opens_group _ _ _ c.cell.ensures _ c.is_group.ensures _ _ _ c.if-is_group.true _ refl _ (pasted_nowhere _ _)

pub returns : goal.returns
returns c =
    opens_leaf _ _ _ c.cell.ensures _ c.is_group.ensures _ _ _ c.if-is_group.false
