-- `day::one` meets its contract. Assumes nothing.
use mathlib.Core.Path.{sym}
use native.Mathlib.Omega.{arith}
use Rattle.value.proofs.classes.Classes.{digit_range}
use Rattle.value.proofs.dates.Fronts.{one_other, one_made}
use Rattle.value_dates.proofs.day.one.Goals as goal

pub returns-then-not-is_digit : goal.returns-then-not-is_digit
returns-then-not-is_digit c =
    one_other c.args.s.now c.args.at (omega arith) (sym c.if-not-is_digit.ensures)

pub overflow_sub-result : goal.overflow_sub-result
overflow_sub-result c =
    omega (arith, digit_range _ (sym c.if-not-is_digit.ensures))

pub returns : goal.returns
returns c =
    one_made c.args.s.now c.args.at (omega arith) (sym c.if-not-is_digit.ensures)
