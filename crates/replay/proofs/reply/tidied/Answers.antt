-- `reply::tidied` meets its contract: what stands in either buffer follows the answer. Assumes nothing.
use mathlib.Core.Path.{sym}
use native.Mathlib.Omega.{arith}
use lib.Seq.{length-take-le}
use Rattle.program_reply.proofs.Replies.{put_told}
use Rattle.replay.proofs.Replying.{tidied_room, tidied_long, put_tidied, put_fitting}
use Rattle.replay.proofs.reply.tidied.Goals as goal

pub slice_bounds-put_pair-end : goal.slice_bounds-put_pair-end
slice_bounds-put_pair-end c = c.image_held-m.ensures.within

pub slice_bounds-put_pair-end-2 : goal.slice_bounds-put_pair-end-2
slice_bounds-put_pair-end-2 c = sym (length-take-le _ _ c.image_held-m.ensures.within)

pub slice_bounds-put_pair-end-3 : goal.slice_bounds-put_pair-end-3
slice_bounds-put_pair-end-3 c =
    let f = tidied_room _ _ _ _ _ _ c.tidy-a.ensures in
    omega (arith, c.held-n.ensures, f)

pub slice_bounds-put_pair-end-4 : goal.slice_bounds-put_pair-end-4
slice_bounds-put_pair-end-4 c =
    let f = tidied_room _ _ _ _ _ _ c.tidy-a.ensures in
    sym (length-take-le _ _ (omega (arith, c.held-n.ensures, f)))

pub unwrap-requires : goal.unwrap-requires
unwrap-requires c =
    let p = c.put_pair.ensures in
    let m = c.image_held-m in
    let n = c.held-n in
    let f = tidied_room _ _ _ _ _ _ c.tidy-a.ensures in
    put_told _ _ _ _
    (omega (arith, tidied_long _ _ _ _ _ _ c.tidy-a.ensures _ m.result n.result m.ensures.is n.ensures (omega (arith, m.ensures.within, c.requires.0)) (omega (arith, n.ensures, f, c.requires.1.0)) p.most, c.requires.1.1))
    p.put

pub returns : goal.returns
returns c =
    let p = c.put_pair.ensures in
    let m = c.image_held-m in
    let n = c.held-n in
    let t = c.tidy-a.ensures in
    let f = tidied_room _ _ _ _ _ _ t in
    let w = put_fitting _ _
    (omega (arith, tidied_long _ _ _ _ _ _ t _ m.result n.result m.ensures.is n.ensures (omega (arith, m.ensures.within, c.requires.0)) (omega (arith, n.ensures, f, c.requires.1.0)) p.most, c.requires.1.1))
    p.put c.unwrap.result c.unwrap.ensures in
    record { is = put_tidied _ _ _ _ _ _ t _ m.result n.result m.ensures.is n.ensures (omega arith) _ w.0; within = w.1 }
