-- A mirror: the bytes between two entities, which are copied as they stand. Assumes nothing.
use Rattle.std.specs.Prelude.{◌≡◌, Bool, not, List, ℕ, ◌+◌, ◌≤◌, eqb, length}
use Rattle.text.specs.Pasting.{pasted}
use Rattle.text_characters.specs.Utf8.{encode_all}
use Rattle.text_characters.specs.Pieces.{ampersand, Spells}

-- a byte of a character that stands for itself
unfoldable pub is_own : ℕ → Bool
is_own x = not (eqb x ampersand)

-- t spells characters, and d has room for their bytes from `at` on
pub record Roomy (t d : List ℕ) (at : ℕ) : Type 0 where
  pub chars : List ℕ
  pub spells : Spells t chars
  pub room : at + length (encode_all chars) ≤ length d

-- the bytes of the characters that t spells, from `at` on
abbrev pub CharsPut : List ℕ → List ℕ → ℕ → List ℕ → Type 0
CharsPut t d at d' = (cs : List ℕ) → Spells t cs → d' ≡ pasted d at (encode_all cs)
