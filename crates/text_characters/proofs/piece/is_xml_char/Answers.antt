-- `piece::is_xml_char` meets its contract. Assumes nothing.
use mathlib.Core.Logic.{inl, inr}
use mathlib.Core.Path.{refl}
use native.Mathlib.Omega.{arith}
use Rattle.text.proofs.Classes.{yes, yes_in, no}
use Rattle.text_characters.proofs.Resolving.{xml_char}
use Rattle.text_characters.proofs.piece.is_xml_char.Goals as goal

pub returns-in-13 : goal.returns-in-13
returns-in-13 c = yes xml_char 0xD 1 refl (omega arith) (omega arith)

pub returns-in-9-to-10 : goal.returns-in-9-to-10
returns-in-9-to-10 c = yes xml_char 0x9 2 refl (omega arith) (omega arith)

pub returns-in-32-to-55295 : goal.returns-in-32-to-55295
returns-in-32-to-55295 c = yes_in xml_char (inl (inl (inr (omega arith))))

pub returns-in-57344-to-65533 : goal.returns-in-57344-to-65533
returns-in-57344-to-65533 c = yes_in xml_char (inl (inr (omega arith)))

pub returns-in-65536-to-1114111 : goal.returns-in-65536-to-1114111
returns-in-65536-to-1114111 c = yes_in xml_char (inr (omega arith))

pub returns-in_default : goal.returns-in_default
returns-in_default c = no xml_char (omega arith)

pub returns-in_default-2 : goal.returns-in_default-2
returns-in_default-2 c = no xml_char (omega arith)

pub returns-in_default-3 : goal.returns-in_default-3
returns-in_default-3 c = no xml_char (omega arith)

pub returns-in_default-4 : goal.returns-in_default-4
returns-in_default-4 c = no xml_char (omega arith)

pub returns-in_default-5 : goal.returns-in_default-5
returns-in_default-5 c = no xml_char (omega arith)
