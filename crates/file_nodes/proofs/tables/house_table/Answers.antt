-- `tables::house_table` meets its contract. Assumes nothing.
-- Written by tools/lists/make.
use mathlib.Core.Path.{refl}
use Rattle.file_nodes.specs.mirror.Tables.{house_table}
use Rattle.file_nodes.proofs.tables.house_table.Goals as goal

pub returns : goal.returns
unfolding house_table
returns c = refl
