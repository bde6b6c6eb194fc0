-- `from_text::frac` meets its contract. Assumes nothing.
use Rattle.value.proofs.numbers.Amounts.{Places}
use Rattle.value_amounts.proofs.from_text.frac.Given as goal

abbrev pub invariant-loop-b : goal.invariant-loop-b
invariant-loop-b l = Places l.t 0 l.neg l.whole l.b-index l.c l.k l.z
