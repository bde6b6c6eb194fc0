-- `moment::fraction` meets its contract. Assumes nothing.
use mathlib.Core.Path.{refl, ◌∙◌, ap, ap₂}
use mathlib.Core.Bool.{true}
use Prim.Native.Nat.{ℕ, ◌+◌, ◌*◌}
use Rattle.value.specs.mirror.Digits.{by_last}
use Rattle.value.proofs.dates.Fronts.{as_made, no_digits, one_digit, two_digits, three_digits}
use Rattle.value_dates.proofs.moment.fraction.Goals as goal

pub returns-in_default : goal.returns-in_default
returns-in_default c =
    no_digits c.args.t.now true c.if-not-mark.ensures refl c.in_default.ensures

pub returns-in_default-one : goal.returns-in_default-one
returns-in_default-one c =
    as_made _ _ _ _ _ (c.ended.ensures.0 ∙ ap (λ (x : ℕ). by_last c.in-Some.a (x * 100000) 0) c.from-tenths.ensures) c.ended.ensures.1
    (one_digit c.args.t.now true c.if-not-mark.ensures refl _ c.in-Some.ensures c.in_default-one.ensures)

pub returns-in_default-one-2 : goal.returns-in_default-one-2
returns-in_default-one-2 c =
    as_made _ _ _ _ _
    (c.ended-in_default-one-2.ensures.0 ∙ ap₂ (λ (x y : ℕ). by_last c.in-Some-one.b ((x * 10 + y) * 10000) 0) c.from-tenths.ensures c.from.ensures)
    c.ended-in_default-one-2.ensures.1
    (two_digits c.args.t.now true c.if-not-mark.ensures refl _ c.in-Some.ensures _ c.in-Some-one.ensures c.in_default-one-2.ensures)

pub returns : goal.returns
returns c =
    as_made _ _ _ _ _
    (c.ended-2.ensures.0 ∙ ap₂ (λ (x y : ℕ). by_last c.in-Some-one-2.c (((x * 10 + y) * 10 + c.from-2.result) * 1000) 0) c.from-tenths.ensures c.from.ensures
    ∙ ap (λ (x : ℕ). by_last c.in-Some-one-2.c (((c.in-Some.a * 10 + c.in-Some-one.b) * 10 + x) * 1000) 0) c.from-2.ensures)
    c.ended-2.ensures.1
    (three_digits c.args.t.now true c.if-not-mark.ensures refl _ c.in-Some.ensures _ c.in-Some-one.ensures _ c.in-Some-one-2.ensures)
