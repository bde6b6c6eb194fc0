-- `program_reply::spread_answer` meets its contract: the line of an answer, piece by piece. Assumes nothing.
use mathlib.Core.Path.{refl}
use Prim.Native.Nat.{◌+◌}
use native.Mathlib.Omega.{arith}
use lib.ListN.{length}
use Rattle.program_reply.proofs.Replies.{length_answer, answered}
use Rattle.program_reply.proofs.spread_answer.Goals as goal

pub overflow_add-end-2 : goal.overflow_add-end-2
overflow_add-end-2 c =
    omega (arith, c.put_numbers-n.ensures.0, c.requires, length_answer c.args.a c.args.s.now)

pub overflow_add-end-3 : goal.overflow_add-end-3
overflow_add-end-3 c =
    omega (arith, c.put_numbers-n.ensures.0, c.requires, length_answer c.args.a c.args.s.now)

pub overflow_add-result : goal.overflow_add-result
overflow_add-result c =
    omega (arith, c.put_numbers-n.ensures.0, c.requires, length_answer c.args.a c.args.s.now)

pub returns : goal.returns
returns c =
    let n = c.put_numbers-n in
    let s = c.args.s.now in
    let l = length_answer c.args.a s in (
      omega (arith, n.ensures.0),
      rw (c.copy-2.ensures, c.put.ensures, c.copy.ensures, n.ensures.1.1)
          (answered c.args.a s c.args.out.now n.result (length s) (n.result + 1 + length s + length s) n.ensures.0 refl refl
          (omega (arith, n.ensures.0, c.requires))),
    )
