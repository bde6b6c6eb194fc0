-- `fill::put_leaf` meets its contract. Assumes nothing.
use mathlib.Core.Path.{refl, sym, ap, ◌∙◌}
use mathlib.Core.Bool.{false}
use Rattle.list.specs.tables.Numbers.{is_group_in}
use Rattle.file_measure.proofs.Leaf.{shuts_none, shuts_some}
use Rattle.file_measure.proofs.Value.{leaf_kind}
use Rattle.file_check.proofs.fill.put_leaf.Goals as goal

pub put_value-requires : goal.put_value-requires
put_value-requires c =
    (c.cell-kind.ensures, leaf_kind _ false (sym (ap is_group_in c.cell-kind.ensures ∙ c.requires.2)) refl)

pub returns-in_err-n : goal.returns-in_err-n
returns-in_err-n c =
    rw c.from_residual.ensures (shuts_none _ _ _ refl false (sym c.requires.2) _ _ _ _ _ _ refl _ refl _ c.place.ensures _
    (rw (c.part_of-t.ensures, c.part_of-ccy.ensures, c.in_err-n.was) at c.put_value.ensures))

pub returns : goal.returns
returns c =
    shuts_some _ _ _ refl false (sym c.requires.2) _ _ _ _ _ _ refl _ refl _ c.place.ensures _ _
    (rw (c.part_of-t.ensures, c.part_of-ccy.ensures, c.in_ok-n.was) at c.put_value.ensures)
