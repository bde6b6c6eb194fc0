-- `answer_line::spread_next` meets its contract. Assumes nothing.
use native.Mathlib.Omega.{arith}
use Rattle.text.specs.Digits.{in_digits}
use Rattle.program_line.proofs.Lines.{blank_then}
use Rattle.program_line.proofs.answer_line.spread_next.Goals as goal

pub returns : goal.returns
returns c =
    let p = c.put in (
      omega (arith, p.ensures.0),
      (omega (arith, p.ensures.1.0), rw (p.ensures.1.1, c.copy.ensures) (blank_then c.args.buf.now (in_digits c.args.n) c.args.at (omega (arith, p.ensures.0, p.ensures.1.0, c.requires)))),
    )
