-- `choice::begun` meets its contract: the rows of another kind than a report's are a statement's. Assumes nothing.
use Rattle.file_measure.proofs.Finds.{as_statement}
use Rattle.file_measure.proofs.choice.begun.Goals as goal

pub returns : goal.returns
returns c =
    as_statement _ _ _ _ c.if-kind-eq-REPORT.false c.requires.0 _ c.requires.1
