-- `fill::row_of` meets its contract. Assumes nothing.
use Rattle.file_check.proofs.Around.{row_first, row_found, row_again, row_nearer}
use Rattle.file_check.proofs.fill.row_of.Goals as goal

pub loop-r-init : goal.loop-r-init
loop-r-init c =
    row_first _ _ _ _ _ c.requires _ c.cell.ensures _ c.unwrap_or-r.ensures

pub loop-r-smaller : goal.loop-r-smaller
loop-r-smaller c =
    row_nearer _ _ _ _ _ c.requires _ c.loop-r.invariant _ c.is_name.ensures c.loop-r-test.true-raw _ c.cell-in-loop-r.ensures _ c.around-r.ensures

pub loop-r-preserved : goal.loop-r-preserved
loop-r-preserved c =
    row_again _ _ _ _ _ c.requires _ c.loop-r.invariant _ c.is_name.ensures c.loop-r-test.true-raw _ c.cell-in-loop-r.ensures _ c.around-r.ensures

pub returns : goal.returns
returns c =
    row_found _ _ _ _ _ c.requires _ c.loop-r.invariant _ c.is_name.ensures c.loop-r-test.false-raw
