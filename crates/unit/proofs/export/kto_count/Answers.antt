-- `export::kto_count` meets its contract: the row is 0. Assumes nothing.
use Rattle.answer.specs.declared.Answer.{Answer}
use Rattle.image_reading.specs.Reads.{HouseReads, HouseCounts}
use Rattle.unit.proofs.Exporting.{without_row}
use Rattle.unit.proofs.export.kto_count.Goals as goal

pub returns : goal.returns
returns c =
    let run = c.args.run.now in
    let r = c.reading-r in
    without_row
    (λ (a : Answer). HouseReads run a × HouseCounts run a r.result.count)
    run
    r.result.answer
    _
    _
    c.hand_place.ensures
    r.ensures.is
    (r.ensures.is, r.ensures.counts)
