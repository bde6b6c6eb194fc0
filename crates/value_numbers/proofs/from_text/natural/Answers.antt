-- `from_text::natural` meets its contract. Assumes nothing.
use mathlib.Core.Path.{sym}
use native.Mathlib.Omega.{arith}
use lib.ListN.{length}
use borrow.Author.Tests.{eqb-true, eqb-false}
use Rattle.value.proofs.classes.Classes.{digit_range}
use Rattle.value.proofs.numbers.Naturals.{count_none, count_room, count_stop, count_more, count_end, count_empty, count_long}
use Rattle.value_numbers.proofs.from_text.natural.Goals as goal

pub returns-then-is_empty : goal.returns-then-is_empty
returns-then-is_empty c =
    count_empty _ (omega (arith, eqb-true (length c.args.t.now) 0 (sym c.if-is_empty.ensures)))

pub returns-then-t-gt-MOST_DIGITS : goal.returns-then-t-gt-MOST_DIGITS
returns-then-t-gt-MOST_DIGITS c =
    count_long _ c.if-t-gt-MOST_DIGITS.true

pub loop-b-init : goal.loop-b-init
loop-b-init c =
    count_none _

pub returns-then-not-is_digit : goal.returns-then-not-is_digit
returns-then-not-is_digit c =
    count_stop _ _ _ c.loop-b.invariant c.loop-b-test.true (sym c.if-not-is_digit.ensures)

pub overflow_mul-n : goal.overflow_mul-n
overflow_mul-n c =
    omega (arith, count_room _ _ _ c.loop-b.invariant (omega arith))

pub overflow_sub-b : goal.overflow_sub-b
overflow_sub-b c =
    omega (arith, digit_range _ (sym c.if-not-is_digit.ensures))

pub overflow_add-n : goal.overflow_add-n
overflow_add-n c =
    omega (arith, count_room _ _ _ c.loop-b.invariant (omega arith), digit_range _ (sym c.if-not-is_digit.ensures), c.from.ensures)

pub loop-b-preserved : goal.loop-b-preserved
loop-b-preserved c =
    count_more _ _ _ c.loop-b.invariant _ c.loop-b-test.true (sym c.if-not-is_digit.ensures) c.from.ensures

pub returns : goal.returns
returns c =
    count_end _ _ _ c.loop-b.invariant c.loop-b-test.false
    (let e = eqb-false (length c.args.t.now) 0 (sym c.if-is_empty.ensures) in omega arith) (omega arith)
