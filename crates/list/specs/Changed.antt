-- A list that is another but for some rows, and rows that no file may have any more. Assumes nothing.
use Rattle.std.specs.Prelude.{◌≡◌, List, [], ◌∷◌, ℕ, ◌-◌, set}
use Rattle.list.specs.Listing.{Row, Listing, row_at}

-- rows of which some are others, by their numbers
abbrev pub changed : List Row → List (ℕ × Row) → List Row
changed rs [] = rs
changed rs (c ∷ cs) = changed (set rs (c.0 - 1) c.1) cs

-- a list with such rows; its rules, namespace and kind byte as they are
abbrev pub altered : Listing → List (ℕ × Row) → Listing
altered l cs = record { rows = changed l.rows cs; rules = l.rules; space = l.space; byte = l.byte }

-- no file has an element of row r any more: its row has no name
abbrev pub Gone : Listing → ℕ → Type 0
Gone l r = (row_at l r).name ≡ []
