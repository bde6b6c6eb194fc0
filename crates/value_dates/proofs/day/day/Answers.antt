-- `day::day` meets its contract. Assumes nothing.
use native.Mathlib.Omega.{arith}
use Rattle.value.proofs.dates.Fronts.{day_whole}
use Rattle.value_dates.proofs.day.day.Goals as goal

pub returns : goal.returns
returns c =
    day_whole _ _ (omega arith) c.in_ok-day_at.ensures
