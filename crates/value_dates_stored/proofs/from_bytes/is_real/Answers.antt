-- `from_bytes::is_real` meets its contract. Assumes nothing.
use mathlib.Core.Path.{ap}
use native.Mathlib.Omega.{arith}
use lib.Dec.{leb}
use borrow.Author.Tests.{le-leb, lt-leb}
use Rattle.text.proofs.Classes.{in_range_lem}
use Rattle.value.specs.types.Day.{is_real}
use Rattle.value.proofs.classes.Classes.{in_no}
use Rattle.value_dates_stored.proofs.from_bytes.is_real.Goals as goal

pub returns-then-y-eq0 : goal.returns-then-y-eq0
unfolding is_real
returns-then-y-eq0 c =
    rw (in_no 1 9999 c.args.y (omega arith))

pub returns-then-y-gt-LAST_YEAR : goal.returns-then-y-gt-LAST_YEAR
unfolding is_real
returns-then-y-gt-LAST_YEAR c =
    rw (in_no 1 9999 c.args.y (omega arith))

pub returns-then-d-eq0 : goal.returns-then-d-eq0
unfolding is_real
returns-then-d-eq0 c =
    rw (in_range_lem 1 9999 c.args.y (omega arith) (omega arith), lt-leb 1 c.args.d (omega arith))

pub returns : goal.returns
unfolding is_real
returns c =
    rw (in_range_lem 1 9999 c.args.y (omega arith) (omega arith), le-leb 1 c.args.d (omega arith)) (ap (leb c.args.d) c.month_days.ensures)
