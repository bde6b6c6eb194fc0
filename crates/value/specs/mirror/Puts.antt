-- A mirror: what the writer of texts does. Assumes nothing.
use Rattle.std.specs.Prelude.{◌≡◌, cond, List, [], ℕ, ◌+◌, leb, length}
use Rattle.text_characters.specs.Utf8.{encode_all}
use Rattle.text_characters.specs.Pieces.{Spells}
use Rattle.value.specs.Value.{text, bytes}
use Rattle.value.specs.given.Wrote.{Wrote}
use Rattle.value.specs.Places.{longest_text}

-- the characters that t spells have n bytes
pub record Counts (t : List ℕ) (n : ℕ) : Type 0 where
  pub chars : List ℕ
  pub spells : Spells t chars
  pub count : n ≡ length (encode_all chars)

unfoldable pub text_size : ℕ → ℕ
text_size n = cond (leb n longest_text) (2 + n) 0

-- a text, where n has 16 bits
unfoldable pub text_bytes : ℕ → List ℕ → List ℕ
text_bytes n cs = cond (leb n longest_text) (bytes (text cs)) []

abbrev pub TextPut : List ℕ → ℕ → List ℕ → ℕ → ℕ → List ℕ → Type 0
TextPut t n d at r d' = (cs : List ℕ) → Spells t cs → Wrote d at (text_bytes n cs) r d'
