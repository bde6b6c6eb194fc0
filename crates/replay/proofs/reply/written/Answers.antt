-- `reply::written` meets its contract: a write, and what it put there. Assumes nothing.
use Rattle.replay.proofs.reply.written.Goals as goal

pub returns : goal.returns
returns c =
    let p = c.put_filled in
    let a = c.write-a in
    record { is = record { answer = a.result; called = a.ensures; line = p.ensures.is }; within = p.ensures.within }
