-- The first bytes of an image, by its kind byte. Assumes nothing.
use Rattle.std.specs.Prelude.{◌≡◌, List, [], ◌∷◌, ◌++◌, ℕ}
use Prim.Native.Char.{code}
use Rattle.text.specs.Puts.{Puts}
use Rattle.list.specs.Listing.{Listing}
use Rattle.image.specs.Image.{header}

-- "`KTO`, version .. in 16 bits", "a kind byte", and the root's row byte
abbrev pub head_of : ℕ → List ℕ
head_of kind = code "K" ∷ code "T" ∷ code "O" ∷ 0 ∷ 2 ∷ kind ∷ 1 ∷ []

-- the header of an image of a list with this kind byte, and the root's row byte, at the start of a buffer
abbrev pub HeadPut : ℕ → List ℕ → ℕ → List ℕ → Type 0
HeadPut n d r d' = (l : Listing) → l.byte ≡ n → Puts d 0 (header l ++ (1 ∷ [])) r d'
