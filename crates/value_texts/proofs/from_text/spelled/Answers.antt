-- `from_text::spelled` meets its contract. Assumes nothing.
use mathlib.Core.Path.{refl, sym, ◌∙◌}
use native.Mathlib.Omega.{arith}
use borrow.Author.Tests.{not-true, not-false}
use Rattle.value.specs.mirror.Texts.{unspelled}
use Rattle.value.proofs.classes.References.{here_start, here_full, here_bad, here_slash, here_room, end_slash, end_blank, end_good}
use Rattle.value.proofs.raw.Sizes.{sized_start, sized_end, width_least, text_of}
use Rattle.value.proofs.raw.Quiet.{turn_some, turn_room, turn_over, turn_here_on, turn_sized}
use Rattle.value_texts.proofs.from_text.spelled.Goals as goal

pub loop-i-init : goal.loop-i-init
loop-i-init c =
    (here_start _ _ _, sized_start _, omega arith)

pub returns-then-k-n : goal.returns-then-k-n
returns-then-k-n c =
    unspelled refl (here_full _ _ _ _ _ _ _ c.loop-i.invariant.0 c.loop-i-test.true c.if-k-n.true)

pub returns-then-not-fits : goal.returns-then-not-fits
returns-then-not-fits c =
    unspelled refl (here_bad _ _ _ _ _ _ _ c.loop-i.invariant.0 c.loop-i-test.true _ c.next_char-c.ensures (omega (arith, c.if-k-n.false)) (sym c.fits.ensures ∙ not-true _ c.if-not-fits.true-raw))

pub returns-then-slash_and : goal.returns-then-slash_and
returns-then-slash_and c =
    unspelled refl
    (here_slash _ _ _ _ _ _ _ c.loop-i.invariant.0 c.loop-i-test.true _ c.next_char-c.ensures
    (omega (arith, c.if-k-n.false)) (sym c.fits.ensures ∙ not-false _ c.if-not-fits.false-raw)
    (sym c.slash_and.ensures ∙ c.if-slash_and.true))

pub overflow_add-n : goal.overflow_add-n
overflow_add-n c =
    omega (arith, c.loop-i-test.true, c.loop-i.invariant.2)

pub overflow_add-i : goal.overflow_add-i
overflow_add-i c =
    omega (arith, here_room _ _ _ _ _ _ _ c.loop-i.invariant.0 c.loop-i-test.true _ c.next_char-c.ensures)

pub overflow_sub-k : goal.overflow_sub-k
overflow_sub-k c =
    omega (arith, c.if-k-n.false)

pub returns-then-k-n-2 : goal.returns-then-k-n-2
returns-then-k-n-2 c =
    unspelled refl
    (turn_over _ _ _ _ _ _ _ c.loop-i.invariant.0 c.loop-i-test.true _ c.next_char-c.ensures c.inked-ink.result _
    c.run_of-run.ensures (omega (arith, c.if-k-n.false)) (sym c.fits.ensures ∙ not-false _ c.if-not-fits.false-raw)
    (sym c.slash_and.ensures ∙ c.if-slash_and.false) c.inked-ink.ensures c.if-k-n-2.true)

pub overflow_add-i-in-loop-i : goal.overflow_add-i-in-loop-i
overflow_add-i-in-loop-i c =
    omega (arith, turn_room _ _ _ _ _ _ _ c.loop-i.invariant.0 c.loop-i-test.true _ c.next_char-c.ensures c.inked-ink.result _ c.run_of-run.ensures)

pub overflow_add-i-in-loop-i-2 : goal.overflow_add-i-in-loop-i-2
overflow_add-i-in-loop-i-2 c =
    omega (arith, turn_room _ _ _ _ _ _ _ c.loop-i.invariant.0 c.loop-i-test.true _ c.next_char-c.ensures c.inked-ink.result _ c.run_of-run.ensures)

pub overflow_add-n-in-loop-i : goal.overflow_add-n-in-loop-i
overflow_add-n-in-loop-i c =
    omega (
      arith,
      turn_room _ _ _ _ _ _ _ c.loop-i.invariant.0 c.loop-i-test.true _ c.next_char-c.ensures c.inked-ink.result _ c.run_of-run.ensures,
      c.loop-i.invariant.2,
      turn_some _ _ _ _ _ _ _ c.loop-i.invariant.0 _ c.next_char-c.ensures (sym c.fits.ensures ∙ not-false _ c.if-not-fits.false-raw),
    )

pub overflow_add-size : goal.overflow_add-size
overflow_add-size c =
    omega (
      arith,
      (turn_room _ _ _ _ _ _ _ c.loop-i.invariant.0 c.loop-i-test.true _ c.next_char-c.ensures c.inked-ink.result _
          c.run_of-run.ensures),
      c.width.ensures,
      (width_least c.next_char-c.result.len c.next_char-c.result.code
          (turn_some _ _ _ _ _ _ _ c.loop-i.invariant.0 _ c.next_char-c.ensures
          (sym c.fits.ensures ∙ not-false _ c.if-not-fits.false-raw))),
    )

pub overflow_add-size-in-loop-i : goal.overflow_add-size-in-loop-i
overflow_add-size-in-loop-i c =
    omega (
      arith,
      (turn_room _ _ _ _ _ _ _ c.loop-i.invariant.0 c.loop-i-test.true _ c.next_char-c.ensures c.inked-ink.result _
          c.run_of-run.ensures),
      c.loop-i.invariant.1.most,
      c.width.ensures,
      (width_least c.next_char-c.result.len c.next_char-c.result.code
          (turn_some _ _ _ _ _ _ _ c.loop-i.invariant.0 _ c.next_char-c.ensures
          (sym c.fits.ensures ∙ not-false _ c.if-not-fits.false-raw))),
    )

pub loop-i-smaller : goal.loop-i-smaller
loop-i-smaller c =
    omega (
      arith,
      (turn_room _ _ _ _ _ _ _ c.loop-i.invariant.0 c.loop-i-test.true _ c.next_char-c.ensures c.inked-ink.result _
          c.run_of-run.ensures),
      (turn_some _ _ _ _ _ _ _ c.loop-i.invariant.0 _ c.next_char-c.ensures
          (sym c.fits.ensures ∙ not-false _ c.if-not-fits.false-raw)),
    )

pub loop-i-preserved : goal.loop-i-preserved
loop-i-preserved c = (
  turn_here_on _ _ _ _ _ _ _ c.loop-i.invariant.0 c.loop-i-test.true _ c.next_char-c.ensures c.inked-ink.result _
      c.run_of-run.ensures (omega (arith, c.if-k-n.false)) (sym c.fits.ensures ∙ not-false _ c.if-not-fits.false-raw)
      (sym c.slash_and.ensures ∙ c.if-slash_and.false) c.inked-ink.ensures (omega (arith, c.if-k-n-2.false)) _
      c.slash_behind-slash.ensures,
  turn_sized _ _ _ _ _ _ _ c.loop-i.invariant.0 c.loop-i-test.true _ c.next_char-c.ensures c.inked-ink.result _
      c.run_of-run.ensures (omega (arith, c.if-k-n.false)) (sym c.fits.ensures ∙ not-false _ c.if-not-fits.false-raw)
      (sym c.slash_and.ensures ∙ c.if-slash_and.false) c.inked-ink.ensures _ _ c.loop-i.invariant.1 c.width.ensures,
  omega (
    arith,
    c.loop-i.invariant.2,
    (turn_some _ _ _ _ _ _ _ c.loop-i.invariant.0 _ c.next_char-c.ensures
        (sym c.fits.ensures ∙ not-false _ c.if-not-fits.false-raw)),
  ),
)

pub returns-then-slash : goal.returns-then-slash
returns-then-slash c =
    unspelled refl (end_slash _ _ _ _ _ _ _ c.loop-i.invariant.0 c.loop-i-test.false c.if-slash.true)

pub returns-then-ink : goal.returns-then-ink
returns-then-ink c =
    text_of _ _ _ (sized_end _ _ _ c.loop-i.invariant.1 c.loop-i-test.false) (end_good _ _ _ _ _ _ _ c.loop-i.invariant.0 c.loop-i-test.false c.if-ink.true c.if-slash.false)

pub returns : goal.returns
returns c =
    unspelled refl (end_blank _ _ _ _ _ _ _ c.loop-i.invariant.0 c.loop-i-test.false c.if-ink.false)
