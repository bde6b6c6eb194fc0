-- `attribute::equals` meets its contract. Assumes nothing.
use mathlib.Core.Path.{sym}
use mathlib.Core.Logic.{inl, inr}
use native.Mathlib.Omega.{arith}
use Rattle.xml_scan.proofs.names.Attributes.{a_mark, equals_cut, equals_other, quote_cut, quote_other, quoted}
use Rattle.xml_scan.proofs.attribute.equals.Goals as goal

pub returns-then-s-sign : goal.returns-then-s-sign
returns-then-s-sign c =
    equals_cut _ _ _ c.blanks_end-sign.ensures c.requires c.if-s-sign.true

pub returns-then-s-sign-ne61 : goal.returns-then-s-sign-ne61
returns-then-s-sign-ne61 c =
    equals_other _ _ _ c.blanks_end-sign.ensures c.requires c.if-s-sign.false c.if-s-sign-ne61.true

pub returns-then-s-mark : goal.returns-then-s-mark
returns-then-s-mark c =
    quote_cut _ _ _ c.blanks_end-sign.ensures c.requires c.if-s-sign.false c.if-s-sign-ne61.false _ c.blanks_end-mark.ensures c.if-s-mark.true

pub value-requires : goal.value-requires
value-requires c =
    (omega arith, a_mark _ c.in-34.is)

pub returns-in-34 : goal.returns-in-34
returns-in-34 c =
    let m = a_mark _ c.in-34.is in
    quoted _ _ _ c.blanks_end-sign.ensures c.requires c.if-s-sign.false c.if-s-sign-ne61.false _ c.blanks_end-mark.ensures
    c.if-s-mark.false m.quote c.value.result (sym m.is) c.value.ensures

pub returns-in_default : goal.returns-in_default
returns-in_default c =
    quote_other _ _ _ c.blanks_end-sign.ensures c.requires c.if-s-sign.false c.if-s-sign-ne61.false _ c.blanks_end-mark.ensures
    c.if-s-mark.false (λ e. c.in_default.in_default-own.rest.1 (inr e)) (λ e. c.in_default.in_default-own.rest.1 (inl e))
