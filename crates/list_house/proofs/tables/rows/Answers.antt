-- `tables::rows` meets its contract. Assumes nothing.
-- Written by tools/lists/make.
use mathlib.Core.Path.{refl}
use Rattle.list_house.specs.mirror.HouseTable.{house_rows}
use Rattle.list_house.proofs.tables.rows.Goals as goal

pub returns : goal.returns
unfolding house_rows
returns c = refl
