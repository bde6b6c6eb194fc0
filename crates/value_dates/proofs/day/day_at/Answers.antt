-- `day::day_at` meets its contract. Assumes nothing.
use mathlib.Core.Path.{sym, subst}
use native.Mathlib.Omega.{arith}
use Rattle.value.specs.mirror.Digits.{DayAt}
use Rattle.value.proofs.dates.Fronts.{day_no_month, day_no_day, day_off, day_on, day_over}
use Rattle.value_dates.proofs.day.day_at.Goals as goal

pub returns-in_err-month : goal.returns-in_err-month
returns-in_err-month c =
    subst (DayAt c.args.t.now) (sym c.from_residual-in_err-month.ensures) (day_no_month _ c.in_err-month.ensures)

pub returns-in_err-day : goal.returns-in_err-day
returns-in_err-day c =
    subst (DayAt c.args.t.now) (sym c.from_residual-in_err-day.ensures) (day_no_day _ c.in_err-day.ensures)

pub returns-then-year-eq0 : goal.returns-then-year-eq0
returns-then-year-eq0 c =
    day_off c.args.t.now _ _ _ _ c.in_ok-hi.ensures c.in_ok-lo.ensures c.in_ok-month.ensures c.in_ok-day.ensures
    (λ y m d r p. omega (arith, p.high, p.low, r.year.0, c.if-year-eq0.true, c.from.ensures, c.from-2.ensures))

pub returns-then-day-eq0 : goal.returns-then-day-eq0
returns-then-day-eq0 c =
    day_off c.args.t.now _ _ _ _ c.in_ok-hi.ensures c.in_ok-lo.ensures c.in_ok-month.ensures c.in_ok-day.ensures (λ y m d r p. omega (arith, p.day, r.day.0, c.if-day-eq0.true))

pub returns-then-month_days-day : goal.returns-then-month_days-day
returns-then-month_days-day c =
    day_off c.args.t.now _ _ _ _ c.in_ok-hi.ensures c.in_ok-lo.ensures c.in_ok-month.ensures c.in_ok-day.ensures
    (λ y m d r p. day_over y m d _ _ _ _ _ r.day.1 p.high p.low _ p.month _ p.day c.from.ensures c.from-2.ensures c.month_days.ensures c.if-month_days-day.true)

pub returns : goal.returns
returns c =
    day_on c.args.t.now _ _ _ _ c.in_ok-hi.ensures c.in_ok-lo.ensures c.in_ok-month.ensures c.in_ok-day.ensures _
    (omega (arith, c.from.ensures, c.from-2.ensures)) c.if-year-eq0.false c.if-day-eq0.false (omega (arith, c.if-month_days-day.false, c.month_days.ensures))
    c.if-not-mark.ensures c.if-not-mark-2.ensures
