-- `divided::divided` meets its contract: what the loop has written and what comes from its place on are what comes from the start on. Assumes nothing.
use mathlib.Core.Path.{◌∙◌, sym}
use native.Mathlib.Omega.{arith}
use Rattle.images.proofs.Dividing.{dividing_start, dividing_room, dividing_end, dividing_counts, dividing_refused, refused_counts, refused_long, dividing_less, dividing_again, told_counts, rest_taken}
use Rattle.images.proofs.divided.divided.Goals as goal

pub loop-at-init : goal.loop-at-init
loop-at-init c = dividing_start _ _ c.requires

pub overflow_add-result : goal.overflow_add-result
overflow_add-result c =
    omega (arith, dividing_room _ _ _ _ c.loop-at.invariant, c.put_refusal.ensures.1.0)

pub shape_of-out-then-step-ne-ACCEPTED : goal.shape_of-out-then-step-ne-ACCEPTED
shape_of-out-then-step-ne-ACCEPTED c =
    let p = c.put_refusal in
    refused_long _ _ _ _ c.loop-at.invariant c.next_at-step.result.answer _ p.ensures.1.1 ∙ sym c.requires

pub returns-then-step-ne-ACCEPTED : goal.returns-then-step-ne-ACCEPTED
returns-then-step-ne-ACCEPTED c =
    let p = c.put_refusal in
    let x = c.next_at-step in
    let w = c.loop-at.invariant in record { is = dividing_refused _ _ _ _ w c.loop-at-test.true x.result x.ensures c.if-step-ne-ACCEPTED.true _ _ p.ensures.0 p.ensures.1.0 p.ensures.1.1; within = refused_counts _ _ _ _ w c.loop-at-test.true x.result x.ensures c.if-step-ne-ACCEPTED.true _ _ p.ensures.0 p.ensures.1.0 p.ensures.1.1 }

pub put_image-n-requires : goal.put_image-n-requires
put_image-n-requires c =
    omega (arith, dividing_room _ _ _ _ c.loop-at.invariant, c.loop-at.invariant.long)

pub loop-at-smaller : goal.loop-at-smaller
loop-at-smaller c =
    let x = c.next_at-step in
    dividing_less _ _ _ _ c.loop-at.invariant c.loop-at-test.true x.result x.ensures c.if-step-ne-ACCEPTED.false

pub loop-at-preserved : goal.loop-at-preserved
loop-at-preserved c =
    let p = c.put_image-n in
    let g = c.taken-count in
    let x = c.next_at-step in
    let z = c.if-step-ne-ACCEPTED.false in
    let w = c.loop-at.invariant in
    let h = c.loop-at-test.true in
    let b = rest_taken c.args.run.now c.loop-at.at _ g.ensures in
    dividing_again _ _ _ _ w h x.result x.ensures z _ (told_counts _ _ _ _ w h x.result x.ensures z g.result b) _ _ p.ensures.0 p.ensures.1

pub shape_of-out : goal.shape_of-out
shape_of-out c = c.loop-at.invariant.long ∙ sym c.requires

pub returns : goal.returns
returns c =
    let w = c.loop-at.invariant in
    record { is = dividing_end _ _ _ _ w c.loop-at-test.false; within = dividing_counts _ _ _ _ w }
