-- The bytes that are written for characters in text. Assumes nothing.
use Rattle.std.specs.Prelude.{Bool, cond, ◌||◌, not, List, [], ◌∷◌, ◌++◌, ℕ, eqb}
use Prim.Native.Char.{code}
use Rattle.text_characters.specs.Pieces.{ampersand, less, greater, amp, lt, gt, word, Piece, char, entity, spell}

-- "`&` and `<` and `>` as entities in text"
abbrev pub piece_of : ℕ → Piece
piece_of c = cond (eqb c (code "&")) (entity amp) (cond (eqb c (code "<")) (entity lt) (cond (eqb c (code ">")) (entity gt) (char c)))

abbrev pub raw_of : List ℕ → List ℕ
raw_of [] = []
raw_of (c ∷ cs) = spell (piece_of c) ++ raw_of cs

-- the same of characters that are given by their bytes: a byte that is none of the three stands as it is
unfoldable pub is_marked : ℕ → Bool
is_marked x = eqb x ampersand || eqb x less || eqb x greater

abbrev pub is_plain : ℕ → Bool
is_plain x = not (is_marked x)

unfoldable pub escape : ℕ → List ℕ
escape x = cond (eqb x ampersand) (word amp) (cond (eqb x less) (word lt) (cond (eqb x greater) (word gt) (x ∷ [])))

unfoldable pub escaped : List ℕ → List ℕ
escaped [] = []
escaped (x ∷ s) = escape x ++ escaped s
