-- `file_answers::is_gone` meets its contract. Assumes nothing.
use Rattle.file_answers.proofs.Answering.{gone_test}
use Rattle.file_answers.proofs.is_gone.Goals as goal

pub returns : goal.returns
returns c = gone_test _ _ _ _ _ _ c.cell.ensures c.cell-2.ensures c.part_len.ensures
