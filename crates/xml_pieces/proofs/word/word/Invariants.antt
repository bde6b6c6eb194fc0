-- `word::word` meets its contract. Assumes nothing.
use Prim.Native.Nat.{◌-◌}
use lib.ListN.{length}
use Rattle.xml_pieces.proofs.Words.{Spelling}
use Rattle.xml_pieces.proofs.word.word.Given as goal

abbrev pub invariant-loop-k : goal.invariant-loop-k
invariant-loop-k l = Spelling l.s l.at l.w l.k

abbrev pub decreases-loop-k : goal.decreases-loop-k
decreases-loop-k l = length l.w - l.k
