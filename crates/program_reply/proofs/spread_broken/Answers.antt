-- `program_reply::spread_broken` meets its contract: the line of a broken feed, piece by piece. Assumes nothing.
use Prim.Native.Nat.{◌+◌}
use native.Mathlib.Omega.{arith}
use Rattle.program_reply.proofs.Replies.{length_broken, broken}
use Rattle.program_reply.proofs.spread_broken.Goals as goal

pub returns : goal.returns
returns c =
    let n = c.put-end in (
      omega (arith, length_broken c.args.n),
      (
        omega arith,
        rw (c.copy-2.ensures, n.ensures.1.1, c.copy.ensures) (broken c.args.n c.args.buf.now (20 + n.result) (omega arith) (omega (arith, c.requires))),
      ),
    )
