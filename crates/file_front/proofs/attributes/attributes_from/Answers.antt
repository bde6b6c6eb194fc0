-- `attributes::attributes_from` meets its contract. Assumes nothing.
use mathlib.Core.Path.{refl, sym, ◌∙◌}
use native.Mathlib.Omega.{arith}
use borrow.Author.Tests.{not-false}
use Rattle.file_front.proofs.Bearing.{carries_none, carries_more, adds_on}
use Rattle.file_front.proofs.Opening.{shut_by}
use Rattle.file_front.proofs.attributes.attributes_from.Goals as goal

pub loop-seen-init : goal.loop-seen-init
loop-seen-init c = carries_none _ _ _ refl refl refl refl

pub loop-seen-smaller : goal.loop-seen-smaller
loop-seen-smaller c =
    let w = adds_on _ _ _ c.in_ok-seen.ensures in
    omega (arith, w.0, w.1)

pub loop-seen-preserved : goal.loop-seen-preserved
loop-seen-preserved c = carries_more _ _ _ _ c.loop-seen.invariant c.in_ok-seen.ensures

pub returns : goal.returns
returns c = (c.loop-seen.invariant, shut_by _ _ (sym c.begins.ensures ∙ not-false _ c.loop-seen-test.false-raw))
