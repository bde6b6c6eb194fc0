-- One character at the front of a text: how many bytes spell it, and which it is. Assumes nothing.
use Rattle.std.specs.Prelude.{◌≡◌, List, ◌++◌, ℕ, ◌/◌, ◌%◌, length}
use Rattle.text_characters.specs.Utf8.{Scalar, encode}
use Rattle.text_characters.specs.Pieces.{Entity, word, stands, GoodPiece, spell, resolved}
use Rattle.text_characters.specs.declared.utf8.Char.{Char}

abbrev pub char_of : ℕ → ℕ → Char
char_of n c = record { len = n; code = c }

-- Signs: which are good, their bytes, and the characters that they stand for.
module _ {A : Type 0} (Good : A → Type 0) (bytes : A → List ℕ) (stood : A → ℕ) where
  -- the text s begins with a good sign, and r is its length and its character
  pub record Begun (s : List ℕ) (r : Char) : Type 0 where
    pub sign : A
    pub good : Good sign
    pub rest : List ℕ
    pub is : s ≡ bytes sign ++ rest
    pub found : r ≡ char_of (length (bytes sign)) (stood sign)

  -- the first character of s, 0 bytes and 0 where no good sign begins
  pub data First (s : List ℕ) (r : Char) : Type 0 where
    begun : Begun s r → First s r
    none : r ≡ char_of 0 0 → ((a : A) (t : List ℕ) → Good a → s ≡ bytes a ++ t → ⊥) → First s r

-- the scalar value whose encoding s begins with
abbrev pub Decoded : List ℕ → Char → Type 0
Decoded = First Scalar encode (λ (c : ℕ). c)

-- the character that s begins with, entities resolved
abbrev pub NextChar : List ℕ → Char → Type 0
NextChar = First GoodPiece spell resolved

-- the entity that s begins with, and the character that it stands for
abbrev pub NextEntity : List ℕ → Char → Type 0
NextEntity = First (λ (e : Entity). Unit {0}) word stands

-- the two as one number: the character is a byte
abbrev pub EntityNumber : List ℕ → ℕ → Type 0
EntityNumber s n = NextEntity s (char_of (n / 256) (n % 256))

-- its length, 0 where none begins
abbrev pub EntityLen : List ℕ → ℕ → Type 0
EntityLen s n = (c : ℕ) × NextEntity s (char_of n c)
