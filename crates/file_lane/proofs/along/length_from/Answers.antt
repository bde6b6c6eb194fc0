-- `along::length_from` meets its contract: what comes from here on comes from the start. Assumes nothing.
use mathlib.Core.Path.{refl}
use native.Mathlib.Omega.{arith}
use Rattle.file_lane.proofs.Looping.{loop_start, loop_ends}
use Rattle.file_lane.proofs.Looping as law
use Rattle.file_lane.proofs.along.length_from.Goals as goal

pub loop-from-init : goal.loop-from-init
loop-from-init c = loop_start c.args.nodes.now c.args.s.now c.args.from c.requires.1

pub returns-then-n-eq0 : goal.returns-then-n-eq0
returns-then-n-eq0 c =
    let past = c.in_ok-past.ensures in (
      omega (arith, c.if-s-gt-LIMIT.false),
      loop_ends _ _ _ _ _ _ _ _ _ _ c.loop-from.invariant c.blanks_end-less.ensures c.eight.ensures c.eight_after.ensures c.in_ok-found.ensures.0 _ _ past.0 _ refl c.if-n-eq0.true,
    )

pub loop-from-preserved : goal.loop-from-preserved
loop-from-preserved c =
    let past = c.in_ok-past.ensures in
    law.loop_again _ _ _ _ _ _ _ _ _ _ c.loop-from.invariant c.blanks_end-less.ensures c.eight.ensures c.eight_after.ensures c.in_ok-found.ensures.0
    _ _ past.0 past.2 past.1 _ refl c.if-n-eq0.false
