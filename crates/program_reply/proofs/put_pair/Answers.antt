-- `program_reply::put_pair` meets its contract: the line whole, or nothing. Assumes nothing.
use native.Mathlib.Omega.{arith}
use Rattle.program_reply.proofs.Replies.{length_pair, pair_most, put_whole, put_none}
use Rattle.program_reply.proofs.put_pair.Goals as goal
use Rattle.program_reply.proofs.put_pair.Goals.{then-out-n-via-then-out-n, then-out-n-via-else-out-n+then-out-n-2}

pub returns-then-out-n-clause-put : goal.returns-then-out-n-clause-put
returns-then-out-n-clause-put c =
    let l = length_pair c.args.a c.args.s.now c.args.t.now in
    put_none _ _
    (elim c.then-out-n.branch [ then-out-n-via-then-out-n w ↦ omega (arith, l, c.put_numbers-n.ensures.0) | then-out-n-via-else-out-n+then-out-n-2 w ↦ omega (arith, l, c.put_numbers-n.ensures.0) ])

pub returns-then-out-n-clause-most : goal.returns-then-out-n-clause-most
returns-then-out-n-clause-most c = pair_most c.args.a c.args.s.now c.args.t.now (omega (arith, c.put_numbers-n.ensures.0, c.put_numbers-n.ensures.1.0))

pub spread_pair-requires : goal.spread_pair-requires
spread_pair-requires c = omega (arith, length_pair c.args.a c.args.s.now c.args.t.now, c.put_numbers-n.ensures.0)

pub returns-clause-put : goal.returns-clause-put
returns-clause-put c =
    put_whole _ _ _ _ (omega (arith, length_pair c.args.a c.args.s.now c.args.t.now, c.put_numbers-n.ensures.0)) c.spread_pair.ensures.0 c.spread_pair.ensures.1

pub returns-clause-most : goal.returns-clause-most
returns-clause-most c = pair_most c.args.a c.args.s.now c.args.t.now (omega (arith, c.put_numbers-n.ensures.0, c.put_numbers-n.ensures.1.0))
