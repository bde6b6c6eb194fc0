-- A word at the front of a text. Assumes nothing.
use Rattle.std.specs.Prelude.{ℕ, Bool, List, length, take}
use Rattle.text.specs.Lists.{same}

-- the text's first bytes, as many as the word has, are the word; tested
unfoldable pub starts : List ℕ → List ℕ → Bool
starts w s = same w (take (length w) s)
