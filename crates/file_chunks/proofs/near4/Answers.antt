-- `near4` meets its contract. Assumes nothing.
use Rattle.text.proofs.Littles.{load_near}
use Rattle.file_chunks.proofs.near4.Goals as goal

pub returns : goal.returns
returns c = (
  load_near _ _ _ _ _ _ _ _
      c.near.ensures
      c.near-2.ensures
      c.near-3.ensures
      c.near-4.ensures
      c.joined.ensures.0
      c.joined.ensures.1,
  c.joined.ensures.2,
)
