-- `from_bytes::is_day` meets its contract. Assumes nothing.
use mathlib.Core.Path.{◌∙◌}
use Rattle.value.specs.mirror.Judges.{is_day}
use Rattle.value_dates_stored.proofs.from_bytes.is_day.Goals as goal

pub returns : goal.returns
unfolding is_day
returns c =
    c.is_real.ensures ∙ rw (c.get16.ensures, c.byte.ensures, c.byte-2.ensures)
