-- `reply::checked` meets its contract: a check, and what it put there. Assumes nothing.
use Rattle.replay.proofs.reply.checked.Goals as goal

pub returns : goal.returns
returns c =
    let p = c.put_filled in
    let a = c.check-a in
    record { is = record { answer = a.result; called = a.ensures; line = p.ensures.is }; within = p.ensures.within }
