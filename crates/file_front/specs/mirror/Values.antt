-- A mirror: a value in quotes, of which a word is one. Assumes nothing.
use Rattle.std.specs.Prelude.{◌≡◌, ◌≢◌, List, ◌∷◌, ◌++◌, ℕ, ◌≤◌, drop}
use Prim.Native.Char.{code}
use Rattle.text.specs.Lists.{Each}
use Rattle.text_characters.specs.Pieces.{Piece, char, spell, spells, GoodPiece}
use Rattle.xml.specs.House.{Quote, mark, GoodValue}

-- a byte is a quote
pub record Quotes (m : ℕ) : Type 0 where
  pub quote : Quote
  pub is : m ≡ mark quote

-- a word stands at a place, in either quotes; r is the place after it
pub record Worded (w s : List ℕ) (at r : ℕ) : Type 0 where
  pub quote : Quote
  pub is : drop at s ≡ mark quote ∷ (w ++ (mark quote ∷ drop r s))

-- a byte that is a character as it stands
pub record Plain (c : ℕ) : Type 0 where
  pub low : code " " ≤ c
  pub high : c ≤ code "~"
  pub marks : (c ≢ code "&") × (c ≢ code "<")

-- a character or an entity stands at a place; r is the place after it
pub record Pieced (s : List ℕ) (at r : ℕ) : Type 0 where
  pub piece : Piece
  pub good : GoodPiece piece
  pub is : drop at s ≡ spell piece ++ drop r s

-- pieces without the byte m, from a place up to i
pub record Passed (s : List ℕ) (at m i : ℕ) : Type 0 where
  pub value : List Piece
  pub good : Each (λ (p : Piece). GoodPiece p × (p ≢ char m)) value
  pub is : drop at s ≡ spells value ++ drop i s

-- and up to the first m; r is the place after it
pub record Valued (s : List ℕ) (at m r : ℕ) : Type 0 where
  pub value : List Piece
  pub good : Each (λ (p : Piece). GoodPiece p × (p ≢ char m)) value
  pub is : drop at s ≡ spells value ++ (m ∷ drop r s)

-- a value stands at a place, in either quotes; r is the place after it
pub record Quoted (s : List ℕ) (at r : ℕ) : Type 0 where
  pub quote : Quote
  pub value : List Piece
  pub good : GoodValue quote value
  pub is : drop at s ≡ mark quote ∷ (spells value ++ (mark quote ∷ drop r s))
