-- `four` meets its contract. Assumes nothing.
use native.Mathlib.Omega.{arith}
use Rattle.text.proofs.Littles.{four_near, loaded_past}
use Rattle.file_chunks.proofs.four.Goals as goal

pub returns-then-s-at : goal.returns-then-s-at
returns-then-s-at c = loaded_past 4 _ _ (omega (arith, c.if-s-at.true))

pub returns-then-s-at-ge-WIDTH_32 : goal.returns-then-s-at-ge-WIDTH_32
returns-then-s-at-ge-WIDTH_32 c = c.load4.ensures.0

pub returns : goal.returns
returns c = four_near _ _ _ c.near4.ensures.0
