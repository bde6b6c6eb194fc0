-- What is gone over: pieces, given bytes, rows of `]`, runs by a table. Assumes nothing.
use Rattle.std.specs.Prelude.{Result, Ok, ◌≡◌, Bool, false, cond, not, ◌&&◌, List, [], ◌∷◌, ℕ, ◌+◌, leb, ltb, eqb, get_or, drop}
use Rattle.text.specs.Lists.{span}
use Rattle.text_characters.specs.Pieces.{bracket, greater, Piece, spell, GoodPiece}
use Rattle.xml_pieces.specs.declared.Stopped.{Stopped}
use Rattle.xml_pieces.specs.Over.{stop}

-- the bytes of a piece of text or of a value: an XML 1.0 character but `<` and `&`, or "`&` only as `&amp; &lt; &gt; &quot; &apos;`"
pub record IsPiece (l : List ℕ) : Type 0 where
  pub piece : Piece
  pub good : GoodPiece piece
  pub is : l ≡ spell piece

-- given bytes
abbrev pub IsWord : List ℕ → List ℕ → Type 0
IsWord w l = l ≡ w

abbrev pub is_bracket : ℕ → Bool
is_bracket x = eqb x bracket

-- "Text is XML 1.0 characters without .. `]]>`": after a row of n `]` text goes on with any byte, but with `>` only after one at most
abbrev pub goes_on : ℕ → List ℕ → Bool
goes_on n [] = false
goes_on n (x ∷ t) = not (eqb x greater && leb 2 n)

-- over the row of `]` that the bytes t begin with, which stand at place i; a row may have none
unfoldable pub over_row : List ℕ → ℕ → Result ℕ Stopped
over_row t i = cond (goes_on (span is_bracket t) (drop (span is_bracket t) t)) (Ok (i + span is_bracket t)) (stop (i + span is_bracket t))

-- a byte whose class in a table is above a level; beyond the table's end it is 0
abbrev pub above : List ℕ → ℕ → ℕ → Bool
above table level x = ltb level (get_or table x 0)
