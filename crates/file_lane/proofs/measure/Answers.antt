-- `measure` meets its contract: the answer of what is measured. Assumes nothing.
use mathlib.Core.Path.{sym, ◌∙◌, ap, subst}
use Rattle.file.specs.Checks.{Finds}
use Rattle.file_measure.specs.Measures.{answer_of}
use Rattle.file_measure.proofs.Finds.{measures_finds}
use Rattle.file_lane.proofs.measure.Goals as goal

pub returns-in-Ok : goal.returns-in-Ok
returns-in-Ok c =
    subst (Finds c.args.input.now) (ap answer_of c.in-Ok.is ∙ sym c.accepted.ensures) (measures_finds _ _ c.measured.ensures)

pub returns-in-Err : goal.returns-in-Err
returns-in-Err c =
    subst (Finds c.args.input.now) (ap answer_of c.in-Err.is) (measures_finds _ _ c.measured.ensures)
