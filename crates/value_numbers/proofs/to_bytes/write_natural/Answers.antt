-- `to_bytes::write_natural` meets its contract. Assumes nothing.
use Rattle.value.proofs.given.Putting.{natural_put}
use Rattle.value_numbers.proofs.to_bytes.write_natural.Goals as goal

pub returns : goal.returns
returns c =
    natural_put _ _ _ _ c.put64.ensures
