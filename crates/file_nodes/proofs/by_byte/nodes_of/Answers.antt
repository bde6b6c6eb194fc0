-- `by_byte::nodes_of` meets its contract. Assumes nothing.
use mathlib.Core.Path.{sym, ◌∙◌, ap}
use mathlib.Core.Bool.{Bool, cond}
use borrow.Author.Tests.{eq-eqb, ne_eqb}
use Rattle.file_nodes.specs.mirror.Tables.{report_table, house_table}
use Rattle.file_nodes.proofs.by_byte.nodes_of.Goals as goal

pub returns-then-kind-eq-REPORT : goal.returns-then-kind-eq-REPORT
returns-then-kind-eq-REPORT c = c.report_table.ensures ∙ sym (ap (λ (b : Bool). cond b report_table house_table) (eq-eqb _ _ c.if-kind-eq-REPORT.true))

pub returns : goal.returns
returns c = c.house_table.ensures ∙ sym (ap (λ (b : Bool). cond b report_table house_table) (ne_eqb _ _ c.if-kind-eq-REPORT.false))
