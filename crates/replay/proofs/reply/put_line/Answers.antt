-- `reply::put_line` meets its contract: the line fits, so it is the buffer's beginning. Assumes nothing.
use native.Mathlib.Omega.{arith}
use Rattle.program_reply.proofs.Replies.{put_told}
use Rattle.replay.proofs.Replying.{put_fitting}
use Rattle.replay.proofs.reply.put_line.Goals as goal

pub unwrap-requires : goal.unwrap-requires
unwrap-requires c = let p = c.put_answer.ensures in put_told _ _ _ _ (omega (arith, p.most, c.requires)) p.put

pub returns : goal.returns
returns c =
    let p = c.put_answer.ensures in
    let w = put_fitting _ _ (omega (arith, p.most, c.requires)) p.put c.unwrap.result c.unwrap.ensures in
    record { is = w.0; within = w.1 }
