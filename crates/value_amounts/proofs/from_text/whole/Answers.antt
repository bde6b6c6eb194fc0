-- `from_text::whole` meets its contract. Assumes nothing.
use mathlib.Core.Path.{refl, sym, ◌∙◌, ap}
use mathlib.Core.List.{List}
use Prim.Native.Nat.{ℕ, ◌+◌}
use lib.ListN.{length-drop}
use lib.Seq.{take_all}
use Rattle.value.specs.mirror.Reading.{frac_of, answer}
use native.Mathlib.Omega.{arith}
use Rattle.value.proofs.classes.Classes.{digit_range}
use Rattle.value.proofs.numbers.Amounts.{digits_end, digits_stop, digits_point, digits_more, digits_over}
use Rattle.value_amounts.proofs.from_text.whole.Goals as goal

pub loop-i-init : goal.loop-i-init
loop-i-init c =
    record { within = omega arith; small = omega arith; same = refl }

pub returns-then-b-eq46 : goal.returns-then-b-eq46
returns-then-b-eq46 c =
    c.frac.ensures ∙ ap (λ (l : List ℕ). answer (frac_of c.args.neg c.loop-i.c 0 c.loop-i.c 0 l)) (take_all _ _ (omega (arith, length-drop (c.loop-i.i + 1) c.args.t.now)))
    ∙ digits_point _ _ _ _ _ c.loop-i.invariant c.loop-i-test.true (sym c.if-not-is_digit.ensures) c.if-b-eq46.true

pub returns-then-not-is_digit : goal.returns-then-not-is_digit
returns-then-not-is_digit c =
    digits_stop _ _ _ _ _ c.loop-i.invariant c.loop-i-test.true (sym c.if-not-is_digit.ensures) c.if-b-eq46.false

pub returns-then-c : goal.returns-then-c
returns-then-c c =
    digits_over _ _ _ _ _ c.loop-i.invariant c.loop-i-test.true (sym c.if-not-is_digit.ensures) c.if-c.true

pub overflow_sub-b : goal.overflow_sub-b
overflow_sub-b c =
    omega (arith, digit_range _ (sym c.if-not-is_digit.ensures))

pub overflow_add-c : goal.overflow_add-c
overflow_add-c c =
    omega (arith, digit_range _ (sym c.if-not-is_digit.ensures), c.from.ensures)

pub loop-i-preserved : goal.loop-i-preserved
loop-i-preserved c =
    let d = digit_range _ (sym c.if-not-is_digit.ensures) in
    digits_more _ _ _ _ _ c.loop-i.invariant _ c.loop-i-test.true (sym c.if-not-is_digit.ensures) c.from.ensures (omega arith)

pub returns : goal.returns
returns c =
    c.finish.ensures ∙ digits_end _ _ _ _ _ c.loop-i.invariant c.loop-i-test.false
