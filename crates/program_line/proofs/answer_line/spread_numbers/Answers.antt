-- `answer_line::spread_numbers` meets its contract. Assumes nothing.
use Prim.Native.Nat.{◌+◌}
use native.Mathlib.Omega.{arith}
use Rattle.program_line.proofs.Lines.{length_numbers, written}
use Rattle.program_line.proofs.answer_line.spread_numbers.Goals as goal

pub returns : goal.returns
returns c =
    let p = c.put-code in
    let q = c.spread_next in
    let s = c.spread_next-2 in (
      omega (arith, length_numbers c.args.a, p.ensures.0, q.ensures.0, s.ensures.0),
      (
        omega (arith, p.ensures.1.0, q.ensures.1.0, s.ensures.1.0),
        rw (s.ensures.1.1, q.ensures.1.1, p.ensures.1.1)
            (written c.args.a c.args.buf.now p.result (p.result + q.result) p.ensures.0 (omega (arith, q.ensures.0)) (omega (arith, p.ensures.1.0, q.ensures.1.0, s.ensures.0, s.ensures.1.0, c.requires))),
      ),
    )
