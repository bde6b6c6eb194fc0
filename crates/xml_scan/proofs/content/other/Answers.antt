-- `content::other` meets its contract. Assumes nothing.
use Rattle.xml_scan.proofs.Text.{other_greater, other_row, other_piece}
use Rattle.xml_scan.proofs.content.other.Goals as goal

pub returns-in-62 : goal.returns-in-62
returns-in-62 c =
    other_greater _ _ c.requires.0 c.in-62.is

pub returns-in-93 : goal.returns-in-93
returns-in-93 c =
    other_row _ _ c.requires.0 c.in-93.is c.brackets.result c.brackets.ensures

pub returns-in_default : goal.returns-in_default
returns-in_default c =
    other_piece _ _ c.requires.0 c.requires.1 c.in_default.in_default-own.rest.0.1 c.in_default.in_default-own.rest.1 c.piece.result c.piece.ensures
