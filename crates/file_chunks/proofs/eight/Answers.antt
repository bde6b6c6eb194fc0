-- `eight` meets its contract. Assumes nothing.
use Rattle.text.proofs.Littles.{eight_here}
use Rattle.file_chunks.proofs.eight.Goals as goal

pub returns : goal.returns
returns c = eight_here _ _ _ c.eight_behind.ensures
