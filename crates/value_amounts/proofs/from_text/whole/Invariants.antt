-- `from_text::whole` meets its contract. Assumes nothing.
use Rattle.value.proofs.numbers.Amounts.{Digits}
use Rattle.value_amounts.proofs.from_text.whole.Given as goal

abbrev pub invariant-loop-i : goal.invariant-loop-i
invariant-loop-i l = Digits l.t 0 l.neg l.i l.c
