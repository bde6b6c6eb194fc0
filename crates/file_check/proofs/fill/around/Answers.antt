-- `fill::around` meets its contract. Assumes nothing.
use borrow.Author.Tests.{eq-eqb, ne_eqb}
use Rattle.file_check.proofs.fill.around.Goals as goal

pub returns-then-r-eq0 : goal.returns-then-r-eq0
returns-then-r-eq0 c =
    rw (eq-eqb _ _ c.if-r-eq0.true) c.cell.ensures

pub returns : goal.returns
returns c =
    rw (ne_eqb _ _ c.if-r-eq0.false)
