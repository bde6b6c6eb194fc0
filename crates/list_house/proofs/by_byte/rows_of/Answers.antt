-- `by_byte::rows_of` meets its contract. Assumes nothing.
use mathlib.Core.Path.{sym, ◌∙◌, ap}
use mathlib.Core.Bool.{Bool, cond}
use borrow.Author.Tests.{eq-eqb, ne_eqb}
use Rattle.list_house.specs.mirror.HouseTable.{house_rows, report_rows}
use Rattle.list_house.proofs.by_byte.rows_of.Goals as goal

pub returns-then-kind-eq-REPORT : goal.returns-then-kind-eq-REPORT
returns-then-kind-eq-REPORT c = c.report_rows.ensures ∙ sym (ap (λ (b : Bool). cond b report_rows house_rows) (eq-eqb _ _ c.if-kind-eq-REPORT.true))

pub returns : goal.returns
returns c = c.rows.ensures ∙ sym (ap (λ (b : Bool). cond b report_rows house_rows) (ne_eqb _ _ c.if-kind-eq-REPORT.false))
