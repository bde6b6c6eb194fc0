-- `decimal::pad` meets its contract: a digit for each tenth, from the last place on. Assumes nothing.
use Rattle.text.specs.Digits.{padded}
use Rattle.text.proofs.Lasts.{Putting}
use Rattle.text_digits.proofs.decimal.pad.Given as goal

abbrev pub invariant-loop-to : goal.invariant-loop-to
invariant-loop-to l = Putting padded l.initial.buf l.at l.k l.n l.buf l.to l.left

abbrev pub decreases-loop-to : goal.decreases-loop-to
decreases-loop-to l = l.to
