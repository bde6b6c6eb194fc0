-- `reply::tallied` meets its contract: the count follows the answer in four bytes. Assumes nothing.
use native.Mathlib.Omega.{arith}
use Rattle.program_reply.proofs.Replies.{put_told}
use Rattle.replay.proofs.Replying.{put_fitting}
use Rattle.replay.proofs.reply.tallied.Goals as goal

pub unwrap-requires : goal.unwrap-requires
unwrap-requires c = let p = c.put_count.ensures in put_told _ _ _ _ (omega (arith, p.most, c.requires)) p.put

pub returns : goal.returns
returns c =
    let p = c.put_count.ensures in
    let r = c.reading-told in
    let w = put_fitting _ _ (omega (arith, p.most, c.requires)) p.put c.unwrap.result c.unwrap.ensures in
    record { is = record { answer = r.result.answer; reads = r.ensures.is; count = r.result.count; counts = r.ensures.counts; line = w.0 }; within = w.1 }
