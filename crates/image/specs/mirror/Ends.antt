-- A mirror: where an item ends. Assumes nothing.
use Rattle.std.specs.Prelude.{cond, List, ℕ}
use Rattle.list.specs.tables.Columns.{KIND, MOST, WORD-COUNT}
use Rattle.list.specs.tables.Table.{cell}
use Rattle.value.specs.mirror.Ends.{value_end}
use Rattle.image.specs.mirror.Step.{is_leaf}

-- after the row byte of row x, at i: a group's item ends there, a leaf's after its value; 0 where no value stands there
unfoldable pub item_end : List ℕ → List ℕ → ℕ → ℕ → ℕ
item_end t s x i = cond (is_leaf t x) (value_end (cell t x KIND) (cell t x MOST) (cell t x WORD-COUNT) s i) i
