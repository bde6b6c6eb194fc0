-- `check::check` meets its contract. Assumes nothing.
use mathlib.Core.Path.{refl}
use native.Mathlib.Omega.{arith}
use Rattle.value.proofs.types.Rights.{checked_by, checked_none, right_ref, right_txt_of, right_iban, right_ccy, right_bool, right_num, right_amt, right_date, right_dtm}
use Rattle.value_kinds.proofs.check.check.Goals as goal

pub returns-in-2 : goal.returns-in-2
returns-in-2 c =
    checked_by 2 _ _ _ _ _ refl c.in-2.is (omega arith) refl (λ j ws g w cw. right_ref _ _ c.spelled.ensures w)

pub returns-in-3 : goal.returns-in-3
returns-in-3 c =
    checked_by 3 _ _ _ _ _ refl c.in-3.is (omega arith) refl (λ j ws g w cw. right_txt_of _ j g _ _ c.spelled-in-3.ensures w)

pub returns-in-4 : goal.returns-in-4
returns-in-4 c =
    checked_by 4 _ _ _ _ _ refl c.in-4.is (omega arith) refl (λ j ws g w cw. right_iban _ _ _ c.is_iban.ensures c.coded.ensures w)

pub returns-in-5 : goal.returns-in-5
returns-in-5 c =
    checked_by 5 _ _ _ _ _ refl c.in-5.is (omega arith) refl (λ j ws g w cw. right_ccy _ _ _ c.is_ccy.ensures c.coded-in-5.ensures w)

pub returns-in-7 : goal.returns-in-7
returns-in-7 c =
    checked_by 7 _ _ _ _ _ refl c.in-7.is (omega arith) refl (λ j ws g. right_bool _ _ _ c.trimmed.ensures c.truth.ensures)

pub returns-in-8 : goal.returns-in-8
returns-in-8 c =
    checked_by 8 _ _ _ _ _ refl c.in-8.is (omega arith) refl (λ j ws g. right_num _ _ _ c.trimmed-in-8.ensures c.natural.ensures)

pub returns-in-9 : goal.returns-in-9
returns-in-9 c =
    checked_by 9 _ _ _ _ _ refl c.in-9.is (omega arith) refl (λ j ws g. right_amt _ _ _ c.trimmed-in-9.ensures c.amount.ensures)

pub returns-in-10 : goal.returns-in-10
returns-in-10 c =
    checked_by 10 _ _ _ _ _ refl c.in-10.is (omega arith) refl (λ j ws g. right_date _ _ _ c.trimmed-in-10.ensures c.day.ensures)

pub returns-in-11 : goal.returns-in-11
returns-in-11 c =
    checked_by 11 _ _ _ _ _ refl c.in-11.is (omega arith) refl (λ j ws g. right_dtm _ _ _ c.trimmed-in-11.ensures c.moment.ensures)

pub returns-in_default : goal.returns-in_default
returns-in_default c =
    let m = c.in_default.in_default-own.rest in
    checked_none _ _ _ (m.0.0.0.0.0.0.0.0.1, m.0.0.0.0.0.0.0.1, m.0.0.0.0.0.0.1, m.0.0.0.0.0.1) (m.0.0.0.0.1, m.0.0.0.1, m.0.0.1, m.0.1, m.1)
