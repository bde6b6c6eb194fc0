-- A mirror: which bytes the cursor passes in a tag. Assumes nothing.
use Rattle.std.specs.Prelude.{Bool, not, ◌||◌, ℕ, eqb}
use Rattle.text.specs.Bytes.{is_blank}
use Rattle.text_characters.specs.Pieces.{apostrophe, quotation, solidus, equal, greater}

-- any byte but a quote
unfoldable pub no_quote : ℕ → Bool
no_quote x = not (eqb x quotation || eqb x apostrophe)

-- a name in a tag, be it the tag's or an attribute's, goes up to the first blank, `/`, `=` or `>`
unfoldable pub in_name : ℕ → Bool
in_name x = not (is_blank x || eqb x solidus || eqb x equal || eqb x greater)
