-- `day::month_days` meets its contract. Assumes nothing.
use native.Mathlib.Omega.{arith}
use borrow.Author.Tests.{eq-eqb, ne_eqb}
use Rattle.value.proofs.dates.Months.{month_none, month_thirty, month_else}
use Rattle.value_dates.proofs.day.month_days.Goals as goal

pub returns-then-m-eq0 : goal.returns-then-m-eq0
returns-then-m-eq0 c =
    month_none c.args.y c.args.m (omega arith)

pub returns-then-m-gt-LAST_MONTH : goal.returns-then-m-gt-LAST_MONTH
returns-then-m-gt-LAST_MONTH c =
    month_none c.args.y c.args.m (omega arith)

pub returns-then-y-eq0-3 : goal.returns-then-y-eq0-3
returns-then-y-eq0-3 c =
    rw (c.in-2.is, eq-eqb _ 0 c.if-y-eq0.true, eq-eqb _ 0 c.if-y-eq0-2.true, eq-eqb _ 0 c.if-y-eq0-3.true)

pub returns-then-y-eq0-2 : goal.returns-then-y-eq0-2
returns-then-y-eq0-2 c =
    rw (c.in-2.is, eq-eqb _ 0 c.if-y-eq0.true, eq-eqb _ 0 c.if-y-eq0-2.true, ne_eqb _ 0 c.if-y-eq0-3.false)

pub returns-then-y-eq0 : goal.returns-then-y-eq0
returns-then-y-eq0 c =
    rw (c.in-2.is, eq-eqb _ 0 c.if-y-eq0.true, ne_eqb _ 0 c.if-y-eq0-2.false)

pub returns-else-y-eq0 : goal.returns-else-y-eq0
returns-else-y-eq0 c =
    rw (c.in-2.is, ne_eqb _ 0 c.if-y-eq0.false)

pub returns-in-4 : goal.returns-in-4
returns-in-4 c =
    month_thirty c.args.y c.args.m c.in-4.is

pub returns-in_default : goal.returns-in_default
returns-in_default c =
    month_else c.args.y c.args.m (omega arith) (omega arith) c.in_default.in_default-own.rest.0.1 c.in_default.in_default-own.rest.1
