-- `lookup::due_after` meets its contract. Assumes nothing.
use Rattle.list.proofs.rows.Along.{due_first, due_other, due_means}
use Rattle.list.proofs.lookup.due_after.Goals as goal

pub returns-then-q-eq0 : goal.returns-then-q-eq0
returns-then-q-eq0 c = let w = due_means _ _ _ _ (due_first _ _ _ _ c.if-q-eq0.true c.cell.ensures) in record { is = w.0; means = w.1 }

pub returns-else-q-eq0 : goal.returns-else-q-eq0
returns-else-q-eq0 c = let w = due_means _ _ _ _ (due_other _ _ _ _ c.if-q-eq0.false c.cell-else-q-eq0.ensures) in record { is = w.0; means = w.1 }
