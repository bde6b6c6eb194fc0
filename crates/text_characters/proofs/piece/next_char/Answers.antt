-- `piece::next_char` meets its contract. Assumes nothing.
use mathlib.Core.Path.{refl, sym, ◌∙◌}
use Rattle.text_characters.proofs.Resolving.{next_end, next_entity, next_less, next_low, next_char, next_none, two_xml}
use Rattle.text_characters.proofs.piece.next_char.Goals as goal

pub returns-then-s-at : goal.returns-then-s-at
returns-then-s-at c = next_end _ _ _ c.if-s-at.true c.char_of.ensures

pub returns-then-x-eq38 : goal.returns-then-x-eq38
returns-then-x-eq38 c = next_entity _ _ c.if-s-at.false _ c.if-x-eq38.true c.entity.ensures

pub returns-then-x-eq60 : goal.returns-then-x-eq60
returns-then-x-eq60 c =
    next_less _ _ c.if-s-at.false _ c.if-x-eq60.true c.char_of-then-x-eq60.ensures

pub returns-then-x-lt128 : goal.returns-then-x-lt128
returns-then-x-lt128 c =
    next_low _ _ c.if-s-at.false _ c.if-x-eq38.false c.if-x-eq60.false c.if-x-lt128.true c.ascii_char.ensures

pub pair-two-requires : goal.pair-two-requires
pair-two-requires c = c.if-s-at.false

pub returns-then-two-ne0 : goal.returns-then-two-ne0
returns-then-two-ne0 c =
    let there = c.pair-two.ensures c.if-two-ne0.true in
    next_char _ _ c.if-s-at.false _ c.if-x-eq38.false c.if-x-eq60.false _ there.0 (two_xml _ there) c.char_of-then-two-ne0.ensures

pub returns-then-is_xml_char : goal.returns-then-is_xml_char
returns-then-is_xml_char c =
    next_char _ _ c.if-s-at.false _ c.if-x-eq38.false c.if-x-eq60.false _ c.decode-c.ensures (sym c.is_xml_char.ensures ∙ c.if-is_xml_char.true) refl

pub returns : goal.returns
returns c =
    next_none _ _ c.if-s-at.false _ c.if-x-eq38.false c.if-x-eq60.false _ c.decode-c.ensures (sym c.is_xml_char.ensures ∙ c.if-is_xml_char.false) c.char_of-2.ensures
