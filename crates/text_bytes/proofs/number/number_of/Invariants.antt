-- `number::number_of` meets its contract. Assumes nothing.
use Rattle.text.proofs.Numbers.{Getting}
use Rattle.text_bytes.proofs.number.number_of.Given as goal

abbrev pub invariant-loop-x : goal.invariant-loop-x
invariant-loop-x l = Getting l.s l.r l.x-index
