-- `to_text::put_day` meets its contract. Assumes nothing.
use Rattle.value.proofs.script.Moments.{day_put}
use Rattle.value_dates_put.proofs.to_text.put_day.Goals as goal

pub returns : goal.returns
returns c =
    day_put _ _ _ _ _ _ c.get16.ensures c.byte.ensures c.byte-2.ensures c.put_three.ensures
