-- `pass::found` meets its contract. Assumes nothing.
use mathlib.Core.Path.{refl, sym, ◌∙◌, ap}
use native.Mathlib.Omega.{arith}
use lib.ListN.{length-replicate}
use Rattle.std.specs.Prelude.{Ok}
use Rattle.std.proofs.lemmas.Result.{err_from_is_err_and}
use Rattle.text.proofs.Puts.{pasted_nowhere}
use Rattle.file_walk.specs.declared.level.Level.{Level}
use Rattle.file_measure.proofs.Head.{head_nowhere}
use Rattle.file_measure.proofs.House.{begins, at_low, loop_refused, group_less, group_on, root_end, leaf_less, leaf_on, leaf_bad}
use Rattle.file_measure.proofs.pass.found.Goals as goal

pub loop-inner-init : goal.loop-inner-init
loop-inner-init c =
    begins _ _ _ c.requires.0 _ refl _ c.requires.1 _ (length-replicate {A = Level} 16 c.args.root.level) _ _ _ (head_nowhere _)

pub returns-in_err-inner : goal.returns-in_err-inner
returns-in_err-inner c =
    let p = err_from_is_err_and c.from_residual.result c.from_residual.ensures.1 in
    rw (p.1, p.2) (loop_refused _ _ _ c.requires.0 _ _ _ _ _ _ c.loop-inner.invariant _ c.step.ensures.0 _ c.step.ensures.1 _ c.in_err-inner.was)

pub group_end-at-requires : goal.group_end-at-requires
group_end-at-requires c =
    at_low _ _ _ c.requires.0 _ _ _ _ _ _ c.loop-inner.invariant

pub loop-inner-smaller-in-Opened : goal.loop-inner-smaller-in-Opened
loop-inner-smaller-in-Opened c =
    group_less _ _ _ c.requires.0 _ _ _ _ _ _ c.loop-inner.invariant _ c.step.ensures.0 _ c.step.ensures.1 _ (c.in_ok-inner.was ∙ ap Ok c.in-Opened.is)

pub loop-inner-preserved-in-Opened : goal.loop-inner-preserved-in-Opened
loop-inner-preserved-in-Opened c =
    group_on _ _ _ c.requires.0 _ _ _ _ _ _ c.loop-inner.invariant _ c.step.ensures.0 _ c.step.ensures.1 _ (c.in_ok-inner.was ∙ ap Ok c.in-Opened.is) _ _ c.group_end-at.ensures

pub overflow_add-result : goal.overflow_add-result
overflow_add-result c =
    omega (arith, at_low _ _ _ c.requires.0 _ _ _ _ _ _ c.loop-inner.invariant)

pub returns-in-Ended : goal.returns-in-Ended
returns-in-Ended c =
    root_end _ _ _ c.requires.0 _ _ _ _ _ _ c.loop-inner.invariant _ c.step.ensures.0 _ c.step.ensures.1 _ (c.in_ok-inner.was ∙ ap Ok c.in-Ended.is) _ (head_nowhere _) _ (pasted_nowhere _ _)

pub leaf_end-requires : goal.leaf_end-requires
leaf_end-requires c =
    at_low _ _ _ c.requires.0 _ _ _ _ _ _ c.loop-inner.invariant

pub returns-in_err-at-in-Closed : goal.returns-in_err-at-in-Closed
returns-in_err-at-in-Closed c =
    let p = err_from_is_err_and c.from_residual-in_err-at-in-Closed.result c.from_residual-in_err-at-in-Closed.ensures.1 in
    rw (p.1, p.2) (leaf_bad _ _ _ c.requires.0 _ _ _ _ _ _ c.loop-inner.invariant _ c.step.ensures.0 _ c.step.ensures.1 _ _ (c.in_ok-inner.was ∙ ap Ok c.in-Closed.is) _ _ _ c.leaf_end.ensures c.bad_value-bad.ensures _ (sym c.ok_or.ensures.value ∙ c.in_err-at-in-Closed.was))

pub loop-inner-smaller : goal.loop-inner-smaller
loop-inner-smaller c =
    leaf_less _ _ _ c.requires.0 _ _ _ _ _ _ c.loop-inner.invariant _ c.step.ensures.0 _ c.step.ensures.1 _ _ (c.in_ok-inner.was ∙ ap Ok c.in-Closed.is)

pub loop-inner-preserved : goal.loop-inner-preserved
loop-inner-preserved c =
    leaf_on _ _ _ c.requires.0 _ _ _ _ _ _ c.loop-inner.invariant _ c.step.ensures.0 _ c.step.ensures.1 _ _ (c.in_ok-inner.was ∙ ap Ok c.in-Closed.is) _ _ _ c.leaf_end.ensures _ (sym c.ok_or.ensures.value ∙ c.in_ok-at-in-Closed.was)
