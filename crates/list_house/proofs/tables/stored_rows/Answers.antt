-- `tables::stored_rows` meets its contract. Assumes nothing.
-- Written by tools/lists/make.
use mathlib.Core.Path.{refl}
use Rattle.list_house.specs.mirror.HouseTable.{stored_house_rows}
use Rattle.list_house.proofs.tables.stored_rows.Goals as goal

pub returns : goal.returns
unfolding stored_house_rows
returns c = refl
