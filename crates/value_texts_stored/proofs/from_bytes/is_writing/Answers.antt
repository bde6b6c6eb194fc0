-- `from_bytes::is_writing` meets its contract. Assumes nothing.
use Rattle.std.proofs.Common.{sym, ◌∙◌, arith}
use borrow.Author.Tests.{not-true, not-false}
use Rattle.value.specs.mirror.Texts.{is_ascii_txt}
use Rattle.value.proofs.stored.texts.Writings.{uninked, pass_none, pass_run, pass_end, pass_bad, pass_some, pass_room, pass_char}
use Rattle.value_texts_stored.proofs.from_bytes.is_writing.Goals as goal

pub returns-then-not-is_inked : goal.returns-then-not-is_inked
returns-then-not-is_inked c = uninked _ _ (sym c.is_inked.ensures ∙ not-true _ c.if-not-is_inked.true-raw)

pub loop-i-init : goal.loop-i-init
loop-i-init c = pass_run _ 0 0 (pass_none _) _ (c.run_end-i.ensures is_ascii_txt (λ b r h. h))

pub returns-in_default : goal.returns-in_default
returns-in_default c = pass_bad _ _ _ c.loop-i.invariant c.loop-i-test.true c.in_default.ensures _

pub overflow_sub-more : goal.overflow_sub-more
overflow_sub-more c = omega (arith, pass_some _ _ _ c.loop-i.invariant c.loop-i-test.true _ c.in-Some.ensures)

pub overflow_add-more : goal.overflow_add-more
overflow_add-more c =
    omega (arith, c.loop-i.invariant.spare, pass_room _ _ _ c.loop-i.invariant c.loop-i-test.true _ c.in-Some.ensures)

pub overflow_add-i : goal.overflow_add-i
overflow_add-i c = omega (arith, pass_room _ _ _ c.loop-i.invariant c.loop-i-test.true _ c.in-Some.ensures)

pub loop-i-smaller : goal.loop-i-smaller
loop-i-smaller c =
    omega (arith, c.run_end-i-in-loop-i.ensures is_ascii_txt (λ b r h. h), c.loop-i-test.true, pass_some _ _ _ c.loop-i.invariant c.loop-i-test.true _ c.in-Some.ensures)

pub loop-i-preserved : goal.loop-i-preserved
loop-i-preserved c =
    pass_run _ _ _ (pass_char _ _ _ c.loop-i.invariant c.loop-i-test.true _ c.in-Some.ensures) _ (c.run_end-i-in-loop-i.ensures is_ascii_txt (λ b r h. h))

pub returns : goal.returns
returns c =
    pass_end _ _ _ c.loop-i.invariant _ (sym c.is_inked.ensures ∙ not-false _ c.if-not-is_inked.false-raw) c.loop-i-test.false
