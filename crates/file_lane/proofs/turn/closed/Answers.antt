-- `turn::closed` meets its contract. Assumes nothing.
use native.Mathlib.Omega.{arith}
use borrow.Author.Tests.{not-false}
use Rattle.file_lane.proofs.Turning.{closed_is}
use Rattle.file_lane.proofs.turn.closed.Goals as goal

pub returns : goal.returns
returns c =
    let a = c.args in
    (closed_is a.nodes.now a.s.now a.k a.info a.end _ _ c.eight.ensures c.eight_after.ensures (c.is_tag.ensures.0 (not-false _ c.if-not-is_tag.false-raw)), omega arith)
