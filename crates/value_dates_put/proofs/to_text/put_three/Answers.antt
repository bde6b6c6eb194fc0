-- `to_text::put_three` meets its contract: five pieces, one after the other. Assumes nothing.
use Rattle.value.proofs.script.Moments.{three_put}
use Rattle.value_dates_put.proofs.to_text.put_three.Goals as goal

pub returns : goal.returns
returns c =
    let a = c.pad.ensures in
    let s = c.copy.ensures in
    let b = c.pad-2.ensures in
    let t = c.copy-2.ensures in
    three_put c.args.sign.now c.requires.0 c.args.w c.args.a c.args.b c.args.c c.args.buf.now c.args.at _ _ _ _ _ c.requires.1 a s b t c.pad-3.ensures
