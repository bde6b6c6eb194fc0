-- `message` meets its contract: the tables are those of its kind. Assumes nothing.
use mathlib.Core.Path.{◌∙◌}
use mathlib.Core.Logic.{inl, inr}
use Rattle.file_measure.proofs.Finds.{chooses, bound_rows, bound_long}
use Rattle.file_measure.proofs.message.Goals as goal
use Rattle.file_measure.proofs.message.Goals.{then-kind-eq-REPORT, else-kind-eq-REPORT}

pub slice_bounds-walked-end : goal.slice_bounds-walked-end
slice_bounds-walked-end c =
    bound_long _ _ (elim c.if-kind-eq-REPORT.branch [ then-kind-eq-REPORT w ↦ inl (w.if-kind-eq-REPORT.true, w.rows-is ∙ w.report_rows-rows.ensures) | else-kind-eq-REPORT w ↦ inr (w.if-kind-eq-REPORT.false, w.rows-is ∙ c.rows-rows.ensures) ])

pub walked-requires : goal.walked-requires
walked-requires c =
    chooses _ _ _ _ _ _ c.requires
    (bound_rows _ _ (elim c.if-kind-eq-REPORT.branch [ then-kind-eq-REPORT w ↦ inl (w.if-kind-eq-REPORT.true, w.rows-is ∙ w.report_rows-rows.ensures) | else-kind-eq-REPORT w ↦ inr (w.if-kind-eq-REPORT.false, w.rows-is ∙ c.rows-rows.ensures) ]))
    c.pool-pool.ensures c.rows-rows.ensures c.begin-tried.ensures c.kind_by-kind.ensures
