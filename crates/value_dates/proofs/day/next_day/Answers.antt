-- `day::next_day` meets its contract. Assumes nothing.
use native.Mathlib.Omega.{arith}
use Rattle.value.proofs.dates.Fronts.{next_day_lem, next_month, next_year}
use Rattle.value_dates.proofs.day.next_day.Goals as goal

pub returns-then-day-month_days : goal.returns-then-day-month_days
returns-then-day-month_days c =
    next_day_lem _ _ _ c.requires (omega (arith, c.month_days.ensures, c.if-day-month_days.true))

pub returns-then-month-lt-LAST_MONTH : goal.returns-then-month-lt-LAST_MONTH
returns-then-month-lt-LAST_MONTH c =
    next_month _ _ _ c.requires (omega (arith, c.month_days.ensures, c.if-day-month_days.false)) (omega (arith, c.if-month-lt-LAST_MONTH.true))

pub returns-then-year-lt-LAST_YEAR : goal.returns-then-year-lt-LAST_YEAR
returns-then-year-lt-LAST_YEAR c =
    next_year _ _ _ c.requires (omega (arith, c.month_days.ensures, c.if-day-month_days.false)) (omega (arith, c.if-month-lt-LAST_MONTH.false)) (omega (arith, c.if-year-lt-LAST_YEAR.true))
