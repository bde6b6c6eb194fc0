-- `token::tail` meets its contract. Assumes nothing.
use mathlib.Core.Path.{◌∙◌}
use native.Mathlib.Omega.{arith}
use Rattle.xml_tags.proofs.Steps.{tail_none, tail_fits, tail_some}
use Rattle.xml_cursor.proofs.token.tail.Goals as goal

pub returns-then-first : goal.returns-then-first
returns-then-first c =
    c.shut.ensures ∙ tail_none _ _ _ _ c.attribute_at-first.ensures c.if-first.true

pub overflow_add-more : goal.overflow_add-more
overflow_add-more c =
    let s = c.args in
    omega (arith, tail_fits s.s.now 0 s.stop c.attribute_at-first.result c.attribute_at-first.ensures c.attributes_at-more.result c.if-first.false c.attributes_at-more.ensures)

pub returns : goal.returns
returns c =
    c.shut-2.ensures ∙ tail_some _ _ _ _ c.attribute_at-first.ensures _ c.if-first.false c.attributes_at-more.ensures
