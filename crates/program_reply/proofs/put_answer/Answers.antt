-- `program_reply::put_answer` meets its contract: the line whole, or nothing. Assumes nothing.
use native.Mathlib.Omega.{arith}
use Rattle.program_reply.proofs.Replies.{length_answer, answer_most, put_whole, put_none}
use Rattle.program_reply.proofs.put_answer.Goals as goal
use Rattle.program_reply.proofs.put_answer.Goals.{then-out-n-via-then-out-n, then-out-n-via-else-out-n+then-out-n-2}

pub returns-then-out-n-clause-put : goal.returns-then-out-n-clause-put
returns-then-out-n-clause-put c =
    let l = length_answer c.args.a c.args.s.now in
    put_none _ _
    (elim c.then-out-n.branch [ then-out-n-via-then-out-n w ↦ omega (arith, l, c.put_numbers-n.ensures.0) | then-out-n-via-else-out-n+then-out-n-2 w ↦ omega (arith, l, c.put_numbers-n.ensures.0) ])

pub returns-then-out-n-clause-most : goal.returns-then-out-n-clause-most
returns-then-out-n-clause-most c = answer_most c.args.a c.args.s.now (omega (arith, c.put_numbers-n.ensures.0, c.put_numbers-n.ensures.1.0))

pub spread_answer-requires : goal.spread_answer-requires
spread_answer-requires c = omega (arith, length_answer c.args.a c.args.s.now, c.put_numbers-n.ensures.0)

pub returns-clause-put : goal.returns-clause-put
returns-clause-put c =
    put_whole _ _ _ _ (omega (arith, length_answer c.args.a c.args.s.now, c.put_numbers-n.ensures.0)) c.spread_answer.ensures.0 c.spread_answer.ensures.1

pub returns-clause-most : goal.returns-clause-most
returns-clause-most c = answer_most c.args.a c.args.s.now (omega (arith, c.put_numbers-n.ensures.0, c.put_numbers-n.ensures.1.0))
