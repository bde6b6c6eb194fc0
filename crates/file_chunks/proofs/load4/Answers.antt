-- `load4` meets its contract. Assumes nothing.
use Rattle.text.proofs.Littles.{load_four}
use Rattle.file_chunks.proofs.load4.Goals as goal

pub returns : goal.returns
returns c = (load_four _ _ _ c.joined.ensures.0 c.joined.ensures.1, c.joined.ensures.2)
