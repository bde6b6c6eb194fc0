-- `image_order::is_leaf` meets its contract. Assumes nothing.
use mathlib.Core.Path.{◌∙◌, ap}
use mathlib.Core.Bool.{not}
use Rattle.list.specs.tables.Numbers.{is_group_in}
use Rattle.image.specs.mirror.Step.{is_leaf}
use Rattle.image_order.proofs.is_leaf.Goals as goal

pub returns : goal.returns
unfolding is_leaf
returns c =
    ap not (c.is_group.ensures ∙ ap is_group_in c.cell.ensures)
