-- `bracket::brackets` meets its contract. Assumes nothing.
use native.Mathlib.Omega.{arith}
use Rattle.xml_pieces.proofs.Rows.{row_cut, row_greater, row_other, row_short}
use Rattle.xml_pieces.proofs.bracket.brackets.Goals as goal

pub returns-then-s-end : goal.returns-then-s-end
returns-then-s-end c =
    row_cut _ _ _ c.brackets_end-end.ensures c.if-s-end.true

pub overflow_sub-end : goal.overflow_sub-end
overflow_sub-end c =
    omega (arith, c.brackets_end-end.ensures)

pub returns-then-s-end-eq62 : goal.returns-then-s-end-eq62
returns-then-s-end-eq62 c =
    row_greater _ _ _ c.brackets_end-end.ensures c.if-s-end.false (omega arith) c.if-s-end-eq62.true

pub returns-else-s-end-eq62 : goal.returns-else-s-end-eq62
returns-else-s-end-eq62 c =
    row_other _ _ _ c.brackets_end-end.ensures c.if-s-end.false c.if-s-end-eq62.false

pub returns-else-end-at-gt1 : goal.returns-else-end-at-gt1
returns-else-end-at-gt1 c =
    row_short _ _ _ c.brackets_end-end.ensures c.if-s-end.false (omega arith)
