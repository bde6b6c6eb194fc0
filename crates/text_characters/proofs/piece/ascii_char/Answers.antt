-- `piece::ascii_char` meets its contract. Assumes nothing.
use mathlib.Core.Path.{sym, ◌∙◌}
use Rattle.text_characters.specs.mirror.Resolving.{plain_at}
use Rattle.text_characters.proofs.piece.ascii_char.Goals as goal

pub returns-then-is_xml_char : goal.returns-then-is_xml_char
unfolding plain_at
returns-then-is_xml_char c =
    c.char_of.ensures ∙ sym (rw (← c.wide-c.ensures, sym c.is_xml_char.ensures ∙ c.if-is_xml_char.true))

pub returns : goal.returns
unfolding plain_at
returns c =
    c.char_of-2.ensures ∙ sym (rw (← c.wide-c.ensures, sym c.is_xml_char.ensures ∙ c.if-is_xml_char.false))
