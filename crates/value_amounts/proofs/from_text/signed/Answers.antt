-- `from_text::signed` meets its contract. Assumes nothing.
use mathlib.Core.Path.{sym, ◌∙◌, ap}
use lib.ListN.{length}
use borrow.Author.Tests.{eqb-true, eqb-false}
use native.Mathlib.Omega.{arith}
use Rattle.value.specs.mirror.Reading.{answer}
use Rattle.value.proofs.numbers.Amounts.{answer_bad, signed_end, signed_whole, signed_stop, signed_point, point_end, point_frac}
use Rattle.value_amounts.proofs.from_text.signed.Goals as goal

pub returns-in_err-first : goal.returns-in_err-first
returns-in_err-first c =
    c.from_residual.ensures ∙ sym (ap answer (signed_end _ _ c.in_err-first.ensures.cases) ∙ answer_bad)

pub returns-then-is_digit : goal.returns-then-is_digit
returns-then-is_digit c =
    c.whole.ensures ∙ sym (ap answer (signed_whole _ _ _ _ c.in_ok-first.ensures.cases.0 (sym c.if-is_digit.ensures)))

pub returns-then-first-ne46 : goal.returns-then-first-ne46
returns-then-first-ne46 c =
    sym (ap answer (signed_stop _ _ _ _ c.in_ok-first.ensures.cases.0 (sym c.if-is_digit.ensures) c.if-first-ne46.true) ∙ answer_bad)

pub returns-then-is_empty : goal.returns-then-is_empty
returns-then-is_empty c =
    sym (ap answer (signed_point _ _ _ _ c.in_ok-first.ensures.cases.0 (sym c.if-is_digit.ensures) (omega arith)
    ∙ point_end _ _ (eqb-true (length c.in_ok-first.rest.now) 0 (sym c.if-is_empty.ensures))) ∙ answer_bad)

pub returns : goal.returns
returns c =
    c.frac.ensures ∙ sym (ap answer (signed_point _ _ _ _ c.in_ok-first.ensures.cases.0 (sym c.if-is_digit.ensures) (omega arith)
    ∙ point_frac _ _ (eqb-false (length c.in_ok-first.rest.now) 0 (sym c.if-is_empty.ensures))))
