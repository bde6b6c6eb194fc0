-- `near8` meets its contract. Assumes nothing.
use mathlib.Core.Path.{refl}
use Rattle.text.proofs.Littles.{eight_near}
use Rattle.file_chunks.proofs.near8.Goals as goal

pub returns : goal.returns
returns c = eight_near _ _ _ _ _ _ c.near4.ensures.0 c.near4-2.ensures.0 refl
