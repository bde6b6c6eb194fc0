-- `moment::clocked` meets its contract. Assumes nothing.
use native.Mathlib.Omega.{arith}
use Rattle.value.proofs.dates.Fronts.{clock_on}
use Rattle.value_dates.proofs.moment.clocked.Goals as goal

pub returns : goal.returns
returns c =
    clock_on c.args.t.now _ _ _ _ _ _ c.in_ok-hour.ensures c.in_ok-minute.ensures c.in_ok-second.ensures c.if-not-mark.ensures c.if-not-mark-2.ensures c.if-not-mark-3.ensures
    (omega arith, omega arith, omega arith) _ _ _ c.fraction-f.ensures.0 c.in_ok-offset.ensures
