-- What the scanner's answer says of a text. Assumes nothing.
use Rattle.std.specs.Prelude.{Result, Ok, Err, List, ℕ}
use Rattle.xml.specs.House.{HouseXml, Viable}
use Rattle.xml_pieces.specs.declared.Stopped.{Stopped}
use Rattle.text.specs.Lists.{LongestBeginning}

-- the text is house XML; or it is "not house XML", and the place is "most leading bytes that still begin some house XML text"
abbrev pub Right : List ℕ → Result (Unit {0}) Stopped → Type 0
Right s (Ok u) = HouseXml s
Right s (Err n) = (HouseXml s → ⊥) × LongestBeginning Viable s n.at
