-- `held::picked_at` meets its contract. Assumes nothing.
use Rattle.image_hold.proofs.Holding.{picked_rest}
use Rattle.image_hold.proofs.held.picked_at.Goals as goal

pub returns : goal.returns
returns c =
    picked_rest _ _ _ _ _ _ c.rest.ensures.is c.rest.ensures.lies c.picked.ensures
