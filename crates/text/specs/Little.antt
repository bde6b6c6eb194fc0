-- Bytes as a number, the first the least. Assumes nothing.
use Rattle.std.specs.Prelude.{◌≡◌, ℕ, ◌+◌, ◌*◌, ◌<◌, List, [], ◌∷◌, take, drop}
use Rattle.text.specs.Lists.{Each}

-- the number that bytes write, the least significant first
unfoldable pub little : List ℕ → ℕ
little [] = 0
little (x ∷ xs) = x + 256 * little xs

abbrev pub Byte : ℕ → Type 0
Byte x = x < 256

-- n is the number of the k bytes of s at a place; after the end there are none, which is as if they were zeros
pub record Loaded (k : ℕ) (s : List ℕ) (at n : ℕ) : Type 0 where
  pub is : n ≡ little (take k (drop at s))
  pub bytes : Each Byte (take k (drop at s))
