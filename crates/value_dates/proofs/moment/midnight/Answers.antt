-- `moment::midnight` meets its contract. Assumes nothing.
use mathlib.Core.Path.{sym, subst}
use lib.ListN.{drop}
use Rattle.value.specs.mirror.Digits.{MidnightAt}
use Rattle.value.proofs.dates.Fronts.{midnight_no_day, midnight_on_lem}
use Rattle.value_dates.proofs.moment.midnight.Goals as goal

pub returns-in_err-next : goal.returns-in_err-next
returns-in_err-next c =
    subst (MidnightAt (drop 19 c.args.t.now) c.args.date.year c.args.date.month c.args.date.day) (sym c.from_residual-in_err-next.ensures) (midnight_no_day (drop 19 c.args.t.now) _ _ _ c.in_err-next.ensures)

pub returns : goal.returns
returns c =
    midnight_on_lem (drop 19 c.args.t.now) _ _ _ _ _ c.in_ok-offset.ensures c.in_ok-next.ensures
