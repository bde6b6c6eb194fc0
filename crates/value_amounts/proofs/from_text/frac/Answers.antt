-- `from_text::frac` meets its contract. Assumes nothing.
use mathlib.Core.Path.{refl, sym, ◌∙◌}
use mathlib.Core.Logic.{inl, inr}
use Prim.Native.Nat.{◌+◌, ◌^◌}
use native.Mathlib.Omega.{arith}
use Rattle.value.proofs.classes.Classes.{digit_range}
use Rattle.value.proofs.numbers.Amounts.{places_none, places_end, places_stop, places_zero, places_one, places_over, room, enough}
use Rattle.value_amounts.proofs.from_text.frac.Goals as goal

pub loop-b-init : goal.loop-b-init
loop-b-init c =
    places_none _ _ _ _ (omega arith) c.requires

pub returns-then-not-is_digit : goal.returns-then-not-is_digit
returns-then-not-is_digit c =
    places_stop _ _ _ _ _ _ _ _ c.loop-b.invariant c.loop-b-test.true (sym c.if-not-is_digit.ensures)

pub loop-b-preserved-then-b-eq48 : goal.loop-b-preserved-then-b-eq48
loop-b-preserved-then-b-eq48 c =
    places_zero _ _ _ _ _ _ _ _ c.loop-b.invariant c.loop-b-test.true (sym c.if-not-is_digit.ensures) c.if-b-eq48.true

pub returns-then-k-z-gt-LAST_PLACE : goal.returns-then-k-z-gt-LAST_PLACE
returns-then-k-z-gt-LAST_PLACE c =
    places_over _ _ _ _ _ _ _ _ c.loop-b.invariant (10 ^ (c.loop-b.z + 1)) c.loop-b-test.true (sym c.if-not-is_digit.ensures) c.if-b-eq48.false refl (inr (omega arith))

pub returns-then-p-c : goal.returns-then-p-c
returns-then-p-c c =
    let e = enough c.loop-b.z c.loop-b.c c.shift-p.result (omega arith) c.shift-p.ensures.0 c.if-p-c.true in
    places_over _ _ _ _ _ _ _ _ c.loop-b.invariant c.shift-p.result c.loop-b-test.true (sym c.if-not-is_digit.ensures) c.if-b-eq48.false c.shift-p.ensures.0 (inl (omega arith))

pub overflow_mul-c : goal.overflow_mul-c
overflow_mul-c c =
    omega (arith, room c.loop-b.c c.shift-p.result (omega arith) c.if-p-c.false)

pub overflow_sub-b : goal.overflow_sub-b
overflow_sub-b c =
    omega (arith, digit_range _ (sym c.if-not-is_digit.ensures))

pub overflow_add-c : goal.overflow_add-c
overflow_add-c c =
    omega (arith, room c.loop-b.c c.shift-p.result (omega arith) c.if-p-c.false, digit_range _ (sym c.if-not-is_digit.ensures), c.from.ensures)

pub loop-b-preserved : goal.loop-b-preserved
loop-b-preserved c =
    let m = room c.loop-b.c c.shift-p.result (omega arith) c.if-p-c.false in
    let e = sym c.if-not-is_digit.ensures in
    let d = digit_range _ e in
    places_one _ _ _ _ _ _ _ _ c.loop-b.invariant c.shift-p.result c.from.result c.loop-b-test.true e c.if-b-eq48.false c.shift-p.ensures.0 c.from.ensures (omega arith) (omega arith)

pub returns : goal.returns
returns c =
    c.finish.ensures ∙ places_end _ _ _ _ _ _ _ _ c.loop-b.invariant c.loop-b-test.false
