-- `to_text::put_offset` meets its contract: four pieces, one after the other. Assumes nothing.
use Rattle.value.proofs.script.Moments.{offset_put}
use Rattle.value_dates_put.proofs.to_text.put_offset.Goals as goal

pub returns : goal.returns
returns c =
    let a = c.copy.ensures in
    let b = c.pad.ensures in
    offset_put c.args.sign.now c.requires.0 c.args.m c.args.buf.now c.args.at _ _ _ _ c.requires.1 a b c.copy-2.ensures c.pad-2.ensures
