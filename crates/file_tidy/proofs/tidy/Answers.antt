-- `tidy` meets its contract: check's refusal, or what the writer says of the image. Assumes nothing.
use mathlib.Core.Path.{refl, sym}
use native.Mathlib.Omega.{arith}
use lib.Seq.{length-take-le}
use Rattle.file.proofs.Rooms.{place_fits}
use Rattle.file_letter.specs.Tidies.{turned_away, handed_on}
use Rattle.file_tidy.proofs.tidy.Goals as goal

pub returns-then-checked-ne-ACCEPTED : goal.returns-then-checked-ne-ACCEPTED
returns-then-checked-ne-ACCEPTED c = turned_away c.check-checked.ensures c.if-checked-ne-ACCEPTED.true refl

pub slice_bounds-write-end : goal.slice_bounds-write-end
slice_bounds-write-end c =
    let f = place_fits _ _ _ _ c.check-checked.ensures c.if-checked-ne-ACCEPTED.false in
    omega arith

pub slice_bounds-write-end-2 : goal.slice_bounds-write-end-2
slice_bounds-write-end-2 c =
    let f = place_fits _ _ _ _ c.check-checked.ensures c.if-checked-ne-ACCEPTED.false in
    sym (length-take-le _ _ (omega arith))

pub returns : goal.returns
returns c =
    handed_on _ c.check-checked.ensures c.if-checked-ne-ACCEPTED.false c.write.ensures
