-- `answer_line::put_numbers` meets its contract. Assumes nothing.
use mathlib.Core.Path.{◌∙◌, ap}
use native.Mathlib.Omega.{arith}
use lib.Seq.{slice}
use Rattle.text.specs.Pasting.{pasted}
use Rattle.program_line.specs.Line.{numbers}
use Rattle.program_line.proofs.Lines.{taken_out}
use Rattle.program_line.proofs.answer_line.put_numbers.Goals as goal

pub returns : goal.returns
returns c =
    let n = c.spread_numbers-n in
    (n.ensures.0, (n.ensures.1.0, c.copy.ensures ∙ ap (pasted c.args.out.now c.args.at) (ap (slice 0 n.result) n.ensures.1.1 ∙ taken_out _ (numbers c.args.a) n.result n.ensures.0 (omega arith))))
