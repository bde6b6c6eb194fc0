-- `said::answered` meets its contract: longer input, a refusal, an image that is read back as what check said that it is. Assumes nothing.
use mathlib.Core.Path.{sym}
use native.Mathlib.Omega.{arith}
use lib.Seq.{length-take-le}
use Rattle.file.proofs.Rooms.{place_fits}
use Rattle.kto.specs.Answered.{over, within}
use Rattle.kto.proofs.Written.{read_again}
use Rattle.kto.proofs.said.answered.Goals as goal

pub returns-then-input-gt-MOST : goal.returns-then-input-gt-MOST
returns-then-input-gt-MOST c = over c.if-input-gt-MOST.true c.longer.ensures

pub returns-then-a-ne-ACCEPTED : goal.returns-then-a-ne-ACCEPTED
returns-then-a-ne-ACCEPTED c = within c.if-input-gt-MOST.false c.check-a.ensures (λ z. absurd (c.if-a-ne-ACCEPTED.true z))

pub slice_bounds-read-end : goal.slice_bounds-read-end
slice_bounds-read-end c =
    let f = place_fits _ _ _ _ c.check-a.ensures c.if-a-ne-ACCEPTED.false in
    omega arith

pub slice_bounds-read-end-2 : goal.slice_bounds-read-end-2
slice_bounds-read-end-2 c =
    let f = place_fits _ _ _ _ c.check-a.ensures c.if-a-ne-ACCEPTED.false in
    sym (length-take-le _ _ (omega arith))

pub returns : goal.returns
returns c = read_again _ _ c.if-input-gt-MOST.false _ _ c.check-a.ensures c.if-a-ne-ACCEPTED.false _ c.read.ensures
