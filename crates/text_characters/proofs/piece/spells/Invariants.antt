-- `piece::spells` meets its contract: the answer from here on is the answer from the start. Assumes nothing.
use Rattle.std.proofs.Common.{◌≡◌, length, take, drop}
use Rattle.text.specs.Lists.{same}
use Rattle.text.specs.Words.{starts}
use Rattle.text_characters.proofs.piece.spells.Given as goal

abbrev pub invariant-loop-k : goal.invariant-loop-k
invariant-loop-k l = starts l.word (drop l.at l.s) ≡ same (drop l.k l.word) (drop l.k (take (length l.word) l.there))
