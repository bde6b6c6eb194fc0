-- `fill::is_tag` meets its contract. Assumes nothing.
use Rattle.file_lane.proofs.Seeking.{match_told}
use Rattle.file_fill.proofs.fill.is_tag.Goals as goal

pub returns : goal.returns
returns c = match_told _ _ _ _ _ c.equal_under.ensures
