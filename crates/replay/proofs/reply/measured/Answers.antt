-- `reply::measured` meets its contract: a read hands back no bytes. Assumes nothing.
use native.Mathlib.Omega.{arith}
use Rattle.program_reply.proofs.Replies.{put_told}
use Rattle.replay.proofs.Replying.{put_fitting}
use Rattle.replay.proofs.reply.measured.Goals as goal

pub unwrap-requires : goal.unwrap-requires
unwrap-requires c = let p = c.put_bare.ensures in put_told _ _ _ _ (omega (arith, p.most, c.requires)) p.put

pub returns : goal.returns
returns c =
    let p = c.put_bare.ensures in
    let w = put_fitting _ _ (omega (arith, p.most, c.requires)) p.put c.unwrap.result c.unwrap.ensures in
    record { is = record { answer = c.read.result; reads = c.read.ensures; line = w.0 }; within = w.1 }
