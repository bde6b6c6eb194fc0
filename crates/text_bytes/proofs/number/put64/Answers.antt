-- `number::put64` meets its contract. Assumes nothing.
use Rattle.std.proofs.Common.{ap, ◌∙◌}
use Rattle.text.specs.Pasting.{pasted}
use Rattle.text.proofs.Numbers.{big_high}
use Rattle.text_bytes.proofs.number.put64.Goals as goal

pub returns : goal.returns
returns c =
    c.paste.ensures ∙ ap (pasted c.args.dst.now c.args.at) (c.to_be_bytes.ensures ∙ big_high 8 c.args.n)
