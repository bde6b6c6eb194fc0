-- `answer_line::spread_refusal` meets its contract. Assumes nothing.
use Prim.Native.Nat.{◌+◌}
use native.Mathlib.Omega.{arith}
use Rattle.program_line.proofs.Lines.{length_refusal, refused}
use Rattle.program_line.proofs.answer_line.spread_refusal.Goals as goal

pub returns : goal.returns
returns c =
    let n = c.put_numbers-end in (
      omega (arith, length_refusal c.args.a),
      (
        omega arith,
        rw (c.copy-2.ensures, n.ensures.1.1, c.copy.ensures) (refused c.args.a c.args.buf.now (8 + n.result) (omega arith) (omega (arith, c.requires))),
      ),
    )
