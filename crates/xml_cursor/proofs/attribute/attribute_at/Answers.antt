-- `attribute::attribute_at` meets its contract. Assumes nothing.
use mathlib.Core.Path.{◌∙◌}
use Rattle.xml_tags.proofs.Steps.{attribute_nowhere, attribute_valued, value_nowhere, value_found}
use Rattle.xml_cursor.proofs.attribute.attribute_at.Goals as goal

pub returns-then-stop-name : goal.returns-then-stop-name
returns-then-stop-name c =
    c.nowhere.ensures ∙ attribute_nowhere _ _ _ _ c.blanks_end-name.ensures c.name_end-stop.ensures c.if-stop-name.true

pub returns-then-s-mark : goal.returns-then-s-mark
returns-then-s-mark c =
    value_nowhere _ _ _ _ c.if-s-mark.true
    ∙ attribute_valued _ _ _ _ c.blanks_end-name.ensures c.name_end-stop.ensures _ c.if-stop-name.false c.until_quote-mark.ensures

pub returns : goal.returns
returns c =
    value_found _ _ _ _ _ _ c.if-s-mark.false c.until-quote.ensures c.past-end.ensures
    ∙ attribute_valued _ _ _ _ c.blanks_end-name.ensures c.name_end-stop.ensures _ c.if-stop-name.false c.until_quote-mark.ensures
