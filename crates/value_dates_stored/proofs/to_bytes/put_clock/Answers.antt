-- `to_bytes::put_clock` meets its contract. Assumes nothing.
use Rattle.value.proofs.given.Putting.{clock_put}
use Rattle.value_dates_stored.proofs.to_bytes.put_clock.Goals as goal

pub returns : goal.returns
returns c =
    clock_put _ _ _ _ _ _ _ _ c.requires c.place.ensures c.place-2.ensures c.place-3.ensures
