-- `day::two` meets its contract. Assumes nothing.
use mathlib.Core.Path.{sym, subst}
use lib.ListN.{drop}
use Rattle.value.specs.mirror.Digits.{Two}
use Rattle.value.proofs.dates.Fronts.{two_second, two_made}
use Rattle.value_dates.proofs.day.two.Goals as goal

pub returns-in_err-y : goal.returns-in_err-y
returns-in_err-y c =
    subst (Two (drop c.args.at c.args.s.now)) (sym c.from_residual-in_err-y.ensures) (two_second c.args.s.now c.args.at _ c.in_ok-x.ensures c.in_err-y.ensures)

pub returns : goal.returns
returns c =
    two_made c.args.s.now c.args.at _ c.in_ok-x.ensures _ c.in_ok-y.ensures
