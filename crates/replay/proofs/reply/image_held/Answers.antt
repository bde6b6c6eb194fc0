-- `reply::image_held` meets its contract: the image's length where there is room for it, none else. Assumes nothing.
use mathlib.Core.Path.{◌∙◌}
use native.Mathlib.Omega.{arith}
use Rattle.replay.proofs.Replying.{image_fits, image_over}
use Rattle.replay.proofs.reply.image_held.Goals as goal

pub returns-then-n-room : goal.returns-then-n-room
returns-then-n-room c =
    let n = c.held-n in
    let f = c.size in
    record { within = c.if-n-room.true; is = λ d a d' e q. n.ensures ∙ image_fits _ d a d' q f.result f.ensures (omega (arith, n.ensures, c.if-n-room.true, e)) }

pub returns : goal.returns
returns c =
    let n = c.held-n in
    let f = c.size in
    record { within = omega arith; is = λ d a d' e q. image_over _ d a d' q f.result f.ensures (omega (arith, n.ensures, c.if-n-room.false, e)) }
