-- `figures::dated` meets its contract. Assumes nothing.
use Rattle.std.specs.Prelude.{Some}
use mathlib.Core.Path.{refl, ◌∙◌, ap}
use native.Mathlib.Omega.{arith}
use Rattle.value_lane.proofs.Firms.{date_ends}
use Rattle.value_lane.proofs.figures.dated.Goals as goal

pub returns-then-s-at : goal.returns-then-s-at
returns-then-s-at c = c.plain.ensures (λ z. omega arith) (λ z. omega arith)

pub returns-then-s-at-lt-DAY_ENDED : goal.returns-then-s-at-lt-DAY_ENDED
returns-then-s-at-lt-DAY_ENDED c = c.plain-then-s-at-lt-DAY_ENDED.ensures (λ z. omega arith) (λ z. omega arith)

pub returns-then-s-end-ne60 : goal.returns-then-s-end-ne60
returns-then-s-end-ne60 c = c.plain-then-s-end-ne60.ensures (λ z. omega arith) (λ z. omega arith)

pub returns-in-Some-Day : goal.returns-in-Some-Day
returns-in-Some-Day c =
    date_ends _ _ _ _ _ _ _ _ c.day.ensures (c.in-Some-Day.is ∙ ap Some c.in-Some-Day.field-0-is) c.tell.ensures c.if-s-end-ne60.false refl (omega arith) (omega (arith, c.if-s-at-lt-DAY_ENDED.false))

pub returns-in_default : goal.returns-in_default
returns-in_default c = c.plain-in_default.ensures (λ z. omega arith) (λ z. omega arith)
