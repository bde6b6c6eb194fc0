-- `held::pick_at` meets its contract. Assumes nothing.
use mathlib.Core.Path.{sym}
use Rattle.image_hold.proofs.held.pick_at.Goals as goal

pub returns : goal.returns
returns c =
    rw (sym c.rest.ensures.is) c.pick.ensures
