-- `eight_behind` meets its contract. Assumes nothing.
use native.Mathlib.Omega.{arith}
use Rattle.text.proofs.Littles.{loaded_past}
use Rattle.file_chunks.proofs.eight_behind.Goals as goal

pub returns-then-s-at : goal.returns-then-s-at
returns-then-s-at c = loaded_past 8 _ _ (omega (arith, c.if-s-at.true))
