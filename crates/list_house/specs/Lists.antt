-- The lists that files are asked to keep to, and the lists that stored images keep to: one for each kind of message. Assumes nothing.
use Rattle.std.specs.Prelude.{cond, List, [], ◌∷◌, ℕ, eqb}
use Rattle.list.specs.Listing.{Listing}
use Rattle.list_house.specs.House.{house, report, stored_house, stored_report}

-- of files: statements, and "camt.052.001.08 as a second message kind"
abbrev pub asked : List Listing
asked = house ∷ report ∷ []

-- the one of a kind byte; of a byte that no list has, a statement's
abbrev pub asked_of : ℕ → Listing
asked_of b = cond (eqb b 2) report house

-- of images: "Stored images with rows 40 and 41 are still read and picked from"
abbrev pub stored : List Listing
stored = stored_house ∷ stored_report ∷ []
