-- `program_reply::spread_pair` meets its contract: the line of an answer with two parts, piece by piece. Assumes nothing.
use mathlib.Core.Path.{refl}
use Prim.Native.Nat.{◌+◌}
use native.Mathlib.Omega.{arith}
use lib.ListN.{length}
use Rattle.program_reply.proofs.Replies.{length_pair, paired}
use Rattle.program_reply.proofs.spread_pair.Goals as goal

pub overflow_add-mark-3 : goal.overflow_add-mark-3
overflow_add-mark-3 c =
    omega (arith, c.put_numbers-blank.ensures.0, c.requires, length_pair c.args.a c.args.s.now c.args.t.now)

pub overflow_add-mark-4 : goal.overflow_add-mark-4
overflow_add-mark-4 c =
    omega (arith, c.put_numbers-blank.ensures.0, c.requires, length_pair c.args.a c.args.s.now c.args.t.now)

pub overflow_add-end : goal.overflow_add-end
overflow_add-end c =
    omega (arith, c.put_numbers-blank.ensures.0, c.requires, length_pair c.args.a c.args.s.now c.args.t.now)

pub overflow_add-end-2 : goal.overflow_add-end-2
overflow_add-end-2 c =
    omega (arith, c.put_numbers-blank.ensures.0, c.requires, length_pair c.args.a c.args.s.now c.args.t.now)

pub overflow_add-end-3 : goal.overflow_add-end-3
overflow_add-end-3 c =
    omega (arith, c.put_numbers-blank.ensures.0, c.requires, length_pair c.args.a c.args.s.now c.args.t.now)

pub overflow_add-result : goal.overflow_add-result
overflow_add-result c =
    omega (arith, c.put_numbers-blank.ensures.0, c.requires, length_pair c.args.a c.args.s.now c.args.t.now)

pub returns : goal.returns
returns c =
    let n = c.put_numbers-blank in
    let s = c.args.s.now in
    let t = c.args.t.now in
    let l = length_pair c.args.a s t in
    let mark = n.result + 1 + length s + length s in (
      omega (arith, n.ensures.0),
      rw (
        c.copy-3.ensures,
        c.put-2.ensures,
        c.copy-2.ensures,
        c.put.ensures,
        c.copy.ensures,
        n.ensures.1.1,
      )
          (paired c.args.a s t c.args.out.now n.result mark (mark + 1 + length t + length t) n.ensures.0 refl refl
          (omega (arith, n.ensures.0, c.requires))),
    )
