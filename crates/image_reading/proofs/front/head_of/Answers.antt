-- `front::head_of` meets its contract. Assumes nothing.
use Rattle.image_reading.proofs.House.{head_told, head_known}
use Rattle.image_reading.proofs.front.head_of.Goals as goal

pub returns : goal.returns
returns c =
    record {
      is = head_told _ _ _ c.ok.ensures.value c.start.ensures;
      known = head_known _ _ _ c.ok.ensures.value c.start.ensures;
    }
