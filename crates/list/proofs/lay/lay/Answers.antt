-- `lay::lay` meets its contract. Assumes nothing.
use Rattle.list.proofs.Laid.{laid_front}
use Rattle.list.proofs.lay.lay.Goals as goal

pub returns : goal.returns
returns c = laid_front _ _ _ _ c.min-n.ensures c.told-table c.copy_from_slice.ensures.after
