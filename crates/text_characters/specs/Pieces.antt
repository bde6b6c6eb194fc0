-- What text and attribute values are made of: XML 1.0 characters as they stand, and the five entities. Assumes nothing.
use Rattle.std.specs.Prelude.{◌≡◌, ◌≢◌, Bool, true, ◌||◌, List, [], ◌∷◌, ◌++◌, map, ℕ, eqb}
use Prim.Native.Char.{code}
use Rattle.text.specs.Bytes.{ascii, in_range}
use Rattle.text.specs.Lists.{Each}
use Rattle.text_characters.specs.Utf8.{encode}

-- XML 1.0, production [2] Char
unfoldable pub is_xml_char : ℕ → Bool
is_xml_char c =
    eqb c 0x9 || eqb c 0xA || eqb c 0xD || in_range 0x20 0xD7FF c || in_range 0xE000 0xFFFD c || in_range 0x10000 0x10FFFF c

-- "`&` only as `&amp; &lt; &gt; &quot; &apos;`"
pub data Entity : Type 0 where
  amp lt gt quot apos : Entity

abbrev pub word : Entity → List ℕ
word amp = ascii "&amp;"
word lt = ascii "&lt;"
word gt = ascii "&gt;"
word quot = ascii "&quot;"
word apos = ascii "&apos;"

-- the character that it stands for
abbrev pub stands : Entity → ℕ
stands amp = code "&"
stands lt = code "<"
stands gt = code ">"
stands quot = code "\""
stands apos = code "'"

-- a piece of text or of a value: a character as it stands, or an entity
pub data Piece : Type 0 where
  char : ℕ → Piece
  entity : Entity → Piece

-- its bytes
abbrev pub spell : Piece → List ℕ
spell (char c) = encode c
spell (entity e) = word e

abbrev pub spells : List Piece → List ℕ
spells [] = []
spells (p ∷ ps) = spell p ++ spells ps

-- its character, entities resolved
abbrev pub resolved : Piece → ℕ
resolved (char c) = c
resolved (entity e) = stands e

-- "XML 1.0 characters without `<`"; "`&` only as ..", "in attribute values too, which may not hold `<`"
abbrev pub GoodPiece : Piece → Type 0
GoodPiece (char c) = (is_xml_char c ≡ true) × (c ≢ code "<") × (c ≢ code "&")
GoodPiece (entity e) = Unit {0}

-- the bytes s spell the characters cs, "after entities are resolved"
pub record Spells (s cs : List ℕ) : Type 0 where
  pub pieces : List Piece
  pub good : Each GoodPiece pieces
  pub is : s ≡ spells pieces
  pub chars : cs ≡ map resolved pieces

-- the characters of pieces one after the other
abbrev pub resolved_all : List Piece → List ℕ
resolved_all ps = map resolved ps

-- the bytes that mark up: `<`, `>`, `/`, `=`, `&`, `]`, and the two quotes, as the laws and the code's promises name them
abbrev pub less : ℕ
less = code "<"

abbrev pub greater : ℕ
greater = code ">"

abbrev pub solidus : ℕ
solidus = code "/"

abbrev pub equal : ℕ
equal = code "="

abbrev pub ampersand : ℕ
ampersand = code "&"

abbrev pub bracket : ℕ
bracket = code "]"

abbrev pub apostrophe : ℕ
apostrophe = code "'"

abbrev pub quotation : ℕ
quotation = code "\""
