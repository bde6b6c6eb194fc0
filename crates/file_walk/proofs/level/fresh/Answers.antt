-- `level::fresh` meets its contract. Assumes nothing.
use Rattle.file_walk.proofs.level.fresh.Goals as goal

pub returns : goal.returns
returns c =
    rw c.due_after-due.ensures.is
