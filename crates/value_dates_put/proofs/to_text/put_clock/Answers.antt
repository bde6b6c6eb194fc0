-- `to_text::put_clock` meets its contract. Assumes nothing.
use Rattle.value.proofs.script.Moments.{clock_put}
use Rattle.value_dates_put.proofs.to_text.put_clock.Goals as goal

pub returns : goal.returns
returns c =
    let h = c.byte.ensures in
    let t = c.copy.ensures in
    clock_put _ _ _ _ _ _ _ h c.byte-2.ensures c.byte-3.ensures c.requires t c.put_three.ensures
