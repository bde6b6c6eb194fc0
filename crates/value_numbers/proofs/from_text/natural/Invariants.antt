-- `from_text::natural` meets its contract. Assumes nothing.
use Rattle.value.proofs.numbers.Naturals.{Count}
use Rattle.value_numbers.proofs.from_text.natural.Given as goal

abbrev pub invariant-loop-b : goal.invariant-loop-b
invariant-loop-b l = Count l.t l.b-index l.n
