-- `file_answers::refusal` meets its contract. Assumes nothing.
use Rattle.file_answers.proofs.Answering.{refused_gone, refused_finer}
use Rattle.file_answers.proofs.refusal.Goals as goal

pub returns-then-is_gone : goal.returns-then-is_gone
returns-then-is_gone c = refused_gone _ _ _ _ _ c.is_gone.ensures _ c.if-is_gone.true c.retired.ensures

pub returns : goal.returns
returns c = refused_finer _ _ _ _ _ c.is_gone.ensures _ c.if-is_gone.false c.too_fine.ensures
