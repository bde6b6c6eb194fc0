-- `front::start` meets its contract. Assumes nothing.
use mathlib.Core.Path.{refl, sym, ◌∙◌}
use native.Mathlib.Omega.{arith}
use borrow.Author.Tests.{not-true, not-false}
use Rattle.image_reading.proofs.House.{starts_foreign, starts_version, starts_kindless, starts_former, starts_current}
use Rattle.image_reading.proofs.front.start.Goals as goal

pub returns-then-not-named : goal.returns-then-not-named
returns-then-not-named c =
    starts_foreign _ _ _ (refl, refl, refl, refl) (c.named.ensures.no' (not-true c.named.result c.if-not-named.true-raw)) c.no_header.ensures

pub returns-then-version-eq1 : goal.returns-then-version-eq1
returns-then-version-eq1 c =
    starts_former _ _ (c.named.ensures.yes' (not-false c.named.result c.if-not-named.false-raw)) (sym c.version-version.ensures ∙ c.if-version-eq1.true) refl refl (refl, refl)

pub returns-then-version-ne2 : goal.returns-then-version-ne2
returns-then-version-ne2 c =
    starts_version _ _ _ (refl, refl, refl, refl) (c.named.ensures.yes' (not-false c.named.result c.if-not-named.false-raw)) (λ e. c.if-version-eq1.false (c.version-version.ensures ∙ e)) (λ e. c.if-version-ne2.true (c.version-version.ensures ∙ e)) c.wrong_version.ensures

pub returns-in_default : goal.returns-in_default
returns-in_default c =
    starts_kindless _ _ _ (refl, refl, refl, refl) (c.named.ensures.yes' (not-false c.named.result c.if-not-named.false-raw)) (omega (arith, c.version-version.ensures, c.if-version-ne2.false))
    c.in_default.ensures c.broken_image.ensures

pub returns : goal.returns
returns c =
    starts_current _ _ (c.named.ensures.yes' (not-false c.named.result c.if-not-named.false-raw)) (omega (arith, c.version-version.ensures, c.if-version-ne2.false)) _ c.in-Some.ensures refl refl (refl, refl)
