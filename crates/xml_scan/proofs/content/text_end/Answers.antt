-- `content::text_end` meets its contract. Assumes nothing.
use native.Mathlib.Omega.{arith}
use Rattle.std.proofs.lemmas.Result.{err_from_is_err_and}
use Rattle.xml_scan.proofs.Text.{texting_none, texting_run, text_cut, text_less, text_stop, other_on, texting_on}
use Rattle.xml_scan.proofs.content.text_end.Goals as goal

pub loop-at-init : goal.loop-at-init
loop-at-init c =
    texting_none _ _ c.requires

pub returns-then-s-j : goal.returns-then-s-j
returns-then-s-j c =
    text_cut _ _ _ (texting_run _ _ _ c.loop-at.invariant _ c.plain_end-j.ensures) c.if-s-j.true

pub returns-then-s-j-eq60 : goal.returns-then-s-j-eq60
returns-then-s-j-eq60 c =
    text_less _ _ _ (texting_run _ _ _ c.loop-at.invariant _ c.plain_end-j.ensures) c.if-s-j.false c.if-s-j-eq60.true

pub other-requires : goal.other-requires
other-requires c =
    (c.if-s-j.false, c.if-s-j-eq60.false)

pub returns-in_err-i : goal.returns-in_err-i
returns-in_err-i c =
    let p = err_from_is_err_and c.from_residual.result c.from_residual.ensures.1 in
    rw (p.1, p.2)
    (text_stop _ _ _ (texting_run _ _ _ c.loop-at.invariant _ c.plain_end-j.ensures) c.other.result c.other.ensures _ c.in_err-i.was)

pub loop-at-smaller : goal.loop-at-smaller
loop-at-smaller c =
    let w = other_on _ _ _ (texting_run _ _ _ c.loop-at.invariant _ c.plain_end-j.ensures) c.other.result c.other.ensures _ c.in_ok-i.was in
    omega (arith, w.0, w.1, c.plain_end-j.ensures)

pub loop-at-preserved : goal.loop-at-preserved
loop-at-preserved c =
    texting_on _ _ _ (texting_run _ _ _ c.loop-at.invariant _ c.plain_end-j.ensures) c.other.result c.other.ensures _ c.in_ok-i.was
