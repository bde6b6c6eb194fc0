-- `export::kto_pick` meets its contract: the part by its place and its length. Assumes nothing.
use Rattle.unit.proofs.Exporting.{picks_at}
use Rattle.unit.proofs.export.kto_pick.Goals as goal

pub returns : goal.returns
returns c =
    picks_at _ _ _ c.pick.result _ _ _ c.hand_place.ensures c.pick.ensures c.picked-part.ensures.hands
