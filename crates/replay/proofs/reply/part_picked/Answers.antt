-- `reply::part_picked` meets its contract: the answer and the part belong together. Assumes nothing.
use native.Mathlib.Omega.{arith}
use Rattle.unit.proofs.Picking.{part_within, picks_both}
use Rattle.replay.proofs.reply.part_picked.Goals as goal

pub put_line-requires : goal.put_line-requires
put_line-requires c =
    let q = part_within c.args.run.now c.args.row c.args.nth c.pick-a.result c.picked-part.result.now (picks_both _ _ _ _ _ c.pick-a.ensures c.picked-part.ensures.hands) in
    omega (arith, c.requires.0, c.requires.1)

pub returns : goal.returns
returns c =
    let a = c.pick-a.result in
    let part = c.picked-part.result.now in
    record { is = record { answer = a; part = part; picks = picks_both _ _ _ _ _ c.pick-a.ensures c.picked-part.ensures.hands; line = c.put_line.ensures.is }; within = c.put_line.ensures.within }
