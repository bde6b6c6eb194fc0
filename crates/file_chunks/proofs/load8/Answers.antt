-- `load8` meets its contract. Assumes nothing.
use mathlib.Core.Path.{refl}
use Rattle.text.proofs.Littles.{load_eight}
use Rattle.file_chunks.proofs.load8.Goals as goal

pub returns : goal.returns
returns c = load_eight _ _ _ _ _ c.load4.ensures.0 c.load4-2.ensures.0 refl
