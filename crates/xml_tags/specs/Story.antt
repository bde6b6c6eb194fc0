-- A message in document order, and what a cursor tells of a text as it goes over it from token to token. Assumes nothing.
use Rattle.std.specs.Prelude.{◌≡◌, cond, List, [], ◌∷◌, ℕ, ◌+◌, ◌<◌, length, drop}
use Rattle.std.proofs.Math.Seq.{slice}
use Rattle.text.specs.Bytes.{is_blank}
use Rattle.text.specs.Lists.{Each}
use Rattle.text_characters.specs.Chars.{NextChar}
use Rattle.text_characters.specs.declared.utf8.Char.{Char}
use Rattle.text_characters.specs.Pieces.{Piece, spell, spells, resolved, GoodPiece, Spells}
use Rattle.xml.specs.Message.{Attrs, Inside}
use Rattle.xml.specs.Message as message
use Rattle.xml_tags.specs.declared.attribute.Attribute.{Attribute}
use Rattle.xml_tags.specs.declared.token.Kind.TheVariants.{Open, Empty, Close, End}
use Rattle.xml_tags.specs.declared.token.Token.{Token}
use Rattle.xml_tags.specs.mirror.Attributes.{attribute_at}
use Rattle.xml_tags.specs.mirror.Tokens.{token_at}

-- what comes next in a message: a character, its first byte at a place; an opening tag, its `<` at a place, with its name and attributes;
-- the end of an element
pub data Event : Type 0 where
  char : ℕ → ℕ → Event
  enter : ℕ → List ℕ → Attrs → Event
  leave : Event

-- the parts of a message in document order, and then more
abbrev pub events : Inside → List Event → List Event
events message.nothing_inside more = more
events (message.character o c k) more = char o c ∷ events k more
events (message.element o n ats i k) more = enter o n ats ∷ events i (leave ∷ events k more)

-- the characters of a text whose first byte is at o, and then more
abbrev pub chars : ℕ → List Piece → List Event → List Event
chars o [] more = more
chars o (p ∷ ps) more = char o (resolved p) ∷ chars (o + length (spell p)) ps more

-- the place of its first character that is no blank, or its end
abbrev pub ink_of : ℕ → List Piece → ℕ
ink_of o [] = o
ink_of o (p ∷ ps) = cond (is_blank (resolved p)) (ink_of (o + length (spell p)) ps) o

-- the bytes of s from a to b are good text, made of these pieces
pub record Text (s : List ℕ) (a b : ℕ) (ps : List Piece) : Type 0 where
  pub good : Each GoodPiece ps
  pub is : slice a b s ≡ spells ps

-- `next_char`, called again and again from a up to b, tells these characters
pub data Reads (s : List ℕ) : ℕ → ℕ → List Event → Type 0 where
  over : {b : ℕ} → Reads s b b []
  next : {a b : ℕ} {c : Char} {es : List Event}
      → NextChar (drop a s) c → 0 < c.len → Reads s (a + c.len) b es → Reads s a b (char a c.code ∷ es)

-- the cursor's answers at a place of s
abbrev pub token_in : List ℕ → ℕ → Token
token_in s o = token_at o (drop o s)

abbrev pub attribute_in : List ℕ → ℕ → Attribute
attribute_in s o = attribute_at o (drop o s)

-- called again and again from o on, it finds these attributes
abbrev pub Finds : List ℕ → ℕ → Attrs → Type 0
Finds s o [] = Unit {0}
Finds s o (a ∷ more) =
    (slice (attribute_in s o).name (attribute_in s o).stop s ≡ a.0)
    × Spells (slice (attribute_in s o).value (attribute_in s o).quote s) a.1
    × Finds s (attribute_in s o).end more

-- the tag of a token: its name, its attributes and how many they are; the first of them is found already
pub record Tagged (s : List ℕ) (t : Token) (n : List ℕ) (ats : Attrs) : Type 0 where
  pub name : slice (t.less + 1) t.stop s ≡ n
  pub count : t.attributes ≡ length ats
  pub attributes : Finds s t.stop ats
  pub first : t.first ≡ attribute_in s t.stop

-- called again and again from o on until the bytes end, the cursor tells these events
pub data Tells (s : List ℕ) : ℕ → List Event → Type 0 where
  enters : {o : ℕ} {ps : List Piece} {n : List ℕ} {ats : Attrs} {more : List Event}
      → (token_in s o).kind ≡ Open → Text s o (token_in s o).less ps → Tagged s (token_in s o) n ats → Tells s (token_in s o).end more
      → Tells s o (chars o ps (enter (token_in s o).less n ats ∷ more))
  passes : {o : ℕ} {ps : List Piece} {n : List ℕ} {ats : Attrs} {more : List Event}
      → (token_in s o).kind ≡ Empty → Text s o (token_in s o).less ps → Tagged s (token_in s o) n ats → Tells s (token_in s o).end more
      → Tells s o (chars o ps (enter (token_in s o).less n ats ∷ leave ∷ more))
  leaves : {o : ℕ} {ps : List Piece} {more : List Event}
      → (token_in s o).kind ≡ Close → Text s o (token_in s o).less ps → Tells s (token_in s o).end more
      → Tells s o (chars o ps (leave ∷ more))
  ends : {o : ℕ} → (token_in s o).kind ≡ End → Tells s o []
