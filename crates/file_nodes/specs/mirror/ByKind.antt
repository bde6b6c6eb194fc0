-- A mirror: the nodes of a list and their numbers, by its kind byte; of a byte that no list has, a statement's. Assumes nothing.
use Rattle.std.specs.Prelude.{cond, List, ℕ, eqb}
use Rattle.list.specs.Listing.{Listing}
use Rattle.file_nodes.specs.Run.{Node}
use Rattle.file_nodes.specs.Entries.{Entry, node_at}
use Rattle.file_nodes.specs.mirror.Nodes.{house_entries, report_entries}
use Rattle.file_nodes.specs.mirror.Tables.{house_table, report_table}

abbrev pub entries_of : ℕ → List Entry
entries_of b = cond (eqb b 2) report_entries house_entries

abbrev pub table_of : ℕ → List ℕ
table_of b = cond (eqb b 2) report_table house_table

abbrev pub nodes_of : Listing → ℕ → Node
nodes_of l = node_at l (entries_of l.byte)
