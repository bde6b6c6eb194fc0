-- A mirror: the table of a list, by its kind byte; of a byte that no list has, a statement's. Assumes nothing.
use Rattle.std.specs.Prelude.{cond, List, ℕ, eqb}
use Rattle.list_house.specs.mirror.HouseTable.{house_rows, report_rows, stored_house_rows, stored_report_rows}

-- of files
abbrev pub asked_rows : ℕ → List ℕ
asked_rows b = cond (eqb b 2) report_rows house_rows

-- of images
abbrev pub kept_rows : ℕ → List ℕ
kept_rows b = cond (eqb b 2) stored_report_rows stored_house_rows
