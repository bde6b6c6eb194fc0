-- A mirror: the front of a file before its root's tag, and the attributes of that tag, one after the other. Assumes nothing.
use Rattle.std.specs.Prelude.{Option, Some, None, ◌≡◌, Bool, true, false, List, [], ◌∷◌, ◌++◌, ℕ, ◌+◌, ◌≤◌, length, drop}
use Rattle.text.specs.Bytes.{ascii, is_blank}
use Rattle.text.specs.Lists.{All}
use Rattle.text_characters.specs.Pieces.{greater, Piece, resolved_all}
use Rattle.list.specs.Listing.{Listing}
use Rattle.list.specs.Within.{Among}
use Rattle.list_house.specs.Lists.{asked}
use Rattle.xml.specs.House.{Attr, attr, attrs, GoodAttr, GoodAttrs, declaration}
use Rattle.xml.specs.Message.{Attrs, attrs_of}
use Rattle.file_walk.specs.First.{carries, unhinted}
use Rattle.file_front.specs.declared.attributes.Carried.{Carried}
use Rattle.file_front.specs.mirror.Values.{Quoted}

-- a declaration or none, and blanks, up to place r
pub record Fronted (s : List ℕ) (r : ℕ) : Type 0 where
  pub declared : Bool
  pub before : List ℕ
  pub blanks : All is_blank before
  pub is : s ≡ declaration declared ++ (before ++ drop r s)

-- w is the namespace of a list of files, which has the kind byte b
pub record Space (w : List ℕ) (b : ℕ) : Type 0 where
  pub list : Listing
  pub among : Among list asked
  pub kind : b ≡ list.byte
  pub is : list.space ≡ w

-- after c came an attribute of this name and value, which c does not have yet; so d came
pub data Notes (n : List ℕ) (v : List Piece) (c d : Carried) : Type 0 where
  spaced : n ≡ ascii "xmlns" → c.kind ≡ None → (b : ℕ) → d.kind ≡ Some b → Space (resolved_all v) b → d.prefix ≡ c.prefix → d.location ≡ c.location → Notes n v c d
  tied : n ≡ ascii "xmlns:xsi" → c.prefix ≡ false → d.kind ≡ c.kind → d.prefix ≡ true → d.location ≡ c.location → Notes n v c d
  placed : n ≡ ascii "xsi:schemaLocation" → c.location ≡ false → d.kind ≡ c.kind → d.prefix ≡ c.prefix → d.location ≡ true → Notes n v c d

-- its value stands at a place
pub record Gains (n s : List ℕ) (at : ℕ) (c d : Carried) : Type 0 where
  pub quoted : Quoted s at d.at
  pub notes : Notes n quoted.value c d

-- it stands where c ends
pub record Adds (s : List ℕ) (c d : Carried) : Type 0 where
  pub attribute : Attr
  pub good : GoodAttr attribute
  pub is : drop c.at s ≡ attr attribute ++ drop d.at s
  pub notes : Notes attribute.name attribute.value c d

-- of these attributes k are xmlns, none before a kind byte is known
pub data Spaced (kind : Option ℕ) (ats : Attrs) (k : ℕ) : Type 0 where
  none : kind ≡ None → carries (ascii "xmlns") ats ≡ false → unhinted ats ≡ [] → k ≡ 0 → Spaced kind ats k
  one : (b : ℕ) → kind ≡ Some b → (w : List ℕ) → Space w b → unhinted ats ≡ (ascii "xmlns", w) ∷ [] → k ≡ 1 → Spaced kind ats k

abbrev pub bit : Bool → ℕ
bit false = 0
bit true = 1

-- "At most four attributes"
abbrev pub most_attributes : ℕ
most_attributes = 4

-- good attributes stand from a place to the end of c, and c says which
pub record Carries (s : List ℕ) (at : ℕ) (c : Carried) : Type 0 where
  pub attributes : List Attr
  pub good : GoodAttrs most_attributes [] attributes
  pub is : drop at s ≡ attrs attributes ++ drop c.at s
  pub prefix : carries (ascii "xmlns:xsi") (attrs_of attributes) ≡ c.prefix
  pub location : carries (ascii "xsi:schemaLocation") (attrs_of attributes) ≡ c.location
  pub spaces : ℕ
  pub space : Spaced c.kind (attrs_of attributes) spaces
  pub few : length attributes ≤ spaces + bit c.prefix + bit c.location

-- a `>` stands at a place
pub record Shut (s : List ℕ) (at : ℕ) : Type 0 where
  pub is : drop at s ≡ greater ∷ drop (at + 1) s
