-- A mirror: bytes that are no tag's. Assumes nothing.
use Rattle.std.specs.Prelude.{◌≢◌, ℕ}
use Rattle.text_characters.specs.Pieces.{less, greater}

-- neither `<` nor `>`
abbrev pub Calm : ℕ → Type 0
Calm x = (x ≢ less) × (x ≢ greater)
