-- `export::kto_read` meets its contract: the row is 0. Assumes nothing.
use Rattle.image_reading.specs.Reads.{HouseReads}
use Rattle.unit.proofs.Exporting.{without_row}
use Rattle.unit.proofs.export.kto_read.Goals as goal

pub returns : goal.returns
returns c =
    let run = c.args.run.now in
    let r = c.read in
    without_row (HouseReads run) run r.result _ _ c.hand_place.ensures r.ensures r.ensures
