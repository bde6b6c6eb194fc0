-- `tables::report_table` meets its contract. Assumes nothing.
-- Written by tools/lists/make.
use mathlib.Core.Path.{refl}
use Rattle.file_nodes.specs.mirror.Tables.{report_table}
use Rattle.file_nodes.proofs.tables.report_table.Goals as goal

pub returns : goal.returns
unfolding report_table
returns c = refl
