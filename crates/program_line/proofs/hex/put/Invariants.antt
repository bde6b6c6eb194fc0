-- `hex::put` meets its contract: each turn writes the two digits of one byte. Assumes nothing.
use Rattle.program_line.proofs.Hexadecimal.{Spreading}
use Rattle.program_line.proofs.hex.put.Given as goal

abbrev pub invariant-loop-k : goal.invariant-loop-k
invariant-loop-k l = Spreading l.bytes l.initial.out l.at l.out l.k
