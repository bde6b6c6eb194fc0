-- `tables::report_rows` meets its contract. Assumes nothing.
-- Written by tools/lists/make.
use mathlib.Core.Path.{refl}
use Rattle.list_house.specs.mirror.HouseTable.{report_rows}
use Rattle.list_house.proofs.tables.report_rows.Goals as goal

pub returns : goal.returns
unfolding report_rows
returns c = refl
