-- `fill::row_of` meets its contract. Assumes nothing.
use Rattle.list.specs.Listing.{Child, child}
use Rattle.list.specs.tables.Table.{list_of}
use Rattle.file_check.proofs.Around.{way}
use Rattle.file_check.proofs.fill.row_of.Given as goal

abbrev pub invariant-loop-r : goal.invariant-loop-r
invariant-loop-r l = Child (list_of l.rows l.pool) l.row l.r

abbrev pub decreases-loop-r : goal.decreases-loop-r
decreases-loop-r l = way (child (list_of l.rows l.pool) l.row l.name) l.r
