-- `moment::moment` meets its contract. Assumes nothing.
use mathlib.Core.Path.{sym, subst}
use Rattle.list.specs.Listing.{dtm}
use Rattle.value.specs.Judged.{FormedAny}
use Rattle.value.proofs.dates.Fronts.{moment_no_day, moment_whole, moment_late}
use Rattle.value_dates.proofs.moment.moment.Goals as goal

pub returns-in_err-date : goal.returns-in_err-date
returns-in_err-date c =
    subst (FormedAny dtm c.args.t.now) (sym c.from_residual.ensures) (moment_no_day _ c.in_err-date.ensures)

pub returns-then-begins : goal.returns-then-begins
returns-then-begins c =
    moment_late c.args.t.now _ _ _ _ c.in_ok-date.ensures (sym c.if-begins.ensures) c.midnight.ensures

pub returns : goal.returns
returns c =
    moment_whole c.args.t.now _ _ _ _ c.in_ok-date.ensures (sym c.if-begins.ensures) c.clocked.ensures
