-- `token::next` meets its contract. Assumes nothing.
use mathlib.Core.Path.{sym, ◌∙◌}
use native.Mathlib.Omega.{arith}
use Rattle.xml_tags.proofs.Passing.{head_in}
use Rattle.xml_tags.proofs.Steps.{next_end, next_close, next_open, next_plain}
use Rattle.xml_cursor.proofs.token.next.Goals as goal

pub returns-then-s-less : goal.returns-then-s-less
returns-then-s-less c = c.bare.ensures ∙ next_end _ _ _ c.until-less.ensures c.if-s-less.true

pub returns-then-byte_is : goal.returns-then-byte_is
returns-then-byte_is c =
    c.bare-then-byte_is.ensures
    ∙ next_close _ _ _ c.until-less.ensures c.if-s-less.false _ _ (sym c.byte_is.ensures ∙ c.if-byte_is.true) c.until.ensures c.past-end.ensures

pub overflow_add-end : goal.overflow_add-end
overflow_add-end c =
    let a = c.args in
    omega (arith, head_in 62 a.s.now c.name_end-stop.result (sym c.byte_is-2.ensures ∙ c.if-byte_is-2.true))

pub returns-then-byte_is-2 : goal.returns-then-byte_is-2
returns-then-byte_is-2 c =
    next_plain _ _ _ c.until-less.ensures c.if-s-less.false _ (sym c.byte_is.ensures ∙ c.if-byte_is.false) c.name_end-stop.ensures _ (sym c.byte_is-2.ensures ∙ c.if-byte_is-2.true) c.nowhere-first.ensures

pub returns : goal.returns
returns c =
    c.tail.ensures
    ∙ next_open _ _ _ c.until-less.ensures c.if-s-less.false _ (sym c.byte_is.ensures ∙ c.if-byte_is.false) c.name_end-stop.ensures
