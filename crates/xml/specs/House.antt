-- House XML: a text is house XML when it is the rendering of a good tree. Assumes nothing.
use Rattle.std.specs.Prelude.{◌≡◌, ◌≢◌, Bool, true, false, List, [], ◌∷◌, ◌++◌, ℕ, zero, suc}
use Prim.Native.Char.{code}
use Rattle.text.specs.Bytes.{ascii, is_blank, is_name_start, is_name_part}
use Rattle.text.specs.Lists.{Each, All, Begins}
use Rattle.text_characters.specs.Pieces.{Piece, char, spell, spells, GoodPiece}

-- "A name is a letter or `_`, then letters, digits, `.`, `-`, `_` (ASCII)"
abbrev pub IsName : List ℕ → Type 0
IsName l = Begins is_name_start is_name_part l

-- "Attribute names may hold one colon between two names; element names may not"
pub data IsAttrName (n : List ℕ) : Type 0 where
  unprefixed : IsName n → IsAttrName n
  prefixed : (p q : List ℕ) → IsName p → IsName q → n ≡ p ++ (code ":" ∷ q) → IsAttrName n

-- "either quote"
pub data Quote : Type 0 where
  single_quote double : Quote

abbrev pub mark : Quote → ℕ
mark single_quote = code "'"
mark double = code "\""

-- "their values are XML 1.0 characters without the quote used"
abbrev pub GoodValue : Quote → List Piece → Type 0
GoodValue q ps = Each (λ (p : Piece). GoodPiece p × (p ≢ char (mark q))) ps

-- an attribute: "after one or more blanks", "blanks allowed around `=`"
pub record Attr : Type 0 where
  pub gap : List ℕ
  pub name : List ℕ
  pub before : List ℕ
  pub after : List ℕ
  pub quote : Quote
  pub value : List Piece

abbrev pub attr : Attr → List ℕ
attr a = a.gap ++ (a.name ++ (a.before ++ (code "=" ∷ (a.after ++ (mark a.quote ∷ (spells a.value ++ (mark a.quote ∷ [])))))))

abbrev pub attrs : List Attr → List ℕ
attrs [] = []
attrs (a ∷ more) = attr a ++ attrs more

pub record GoodAttr (a : Attr) : Type 0 where
  pub gap : Begins is_blank is_blank a.gap
  pub name : IsAttrName a.name
  pub before : All is_blank a.before
  pub after : All is_blank a.after
  pub value : GoodValue a.quote a.value

-- "At most four attributes, .. all names different": at most k, with other names than those seen
abbrev pub GoodAttrs : ℕ → List (List ℕ) → List Attr → Type 0
GoodAttrs k seen [] = Unit {0}
GoodAttrs zero seen (a ∷ more) = ⊥
GoodAttrs (suc k) seen (a ∷ more) = GoodAttr a × Each (λ (n : List ℕ). a.name ≢ n) seen × GoodAttrs k (a.name ∷ seen) more

-- what stands between `<` and `>` or `/>`: "Blanks are allowed before `>` and `/>`"
pub record Tag : Type 0 where
  pub name : List ℕ
  pub attributes : List Attr
  pub gap : List ℕ

abbrev pub tag : Tag → List ℕ
tag t = t.name ++ (attrs t.attributes ++ t.gap)

pub record GoodTag (t : Tag) : Type 0 where
  pub name : IsName t.name
  pub attributes : GoodAttrs 4 [] t.attributes
  pub gap : All is_blank t.gap

-- what stands between an element's tags: nothing more; or a piece of text, `<a/>`, or `<a>`, what it holds, `</a` blanks `>`; and what follows it
pub data Markup : Type 0 where
  no_more : Markup
  piece : Piece → Markup → Markup
  empty_tag : Tag → Markup → Markup
  full : Tag → Markup → List ℕ → Markup → Markup

abbrev pub render : Markup → List ℕ
render no_more = []
render (piece p k) = spell p ++ render k
render (empty_tag t k) = code "<" ∷ (tag t ++ (code "/" ∷ code ">" ∷ render k))
render (full t i g k) = code "<" ∷ (tag t ++ (code ">" ∷ (render i ++ (code "<" ∷ code "/" ∷ (t.name ++ (g ++ (code ">" ∷ render k)))))))

-- `]]>` as it stands, and what follows it
abbrev pub cut : Markup → Markup
cut k = piece (char (code "]")) (piece (char (code "]")) (piece (char (code ">")) k))

-- good, where elements may nest d deep: "Text is XML 1.0 characters without .. `]]>`"
abbrev pub GoodMarkup : ℕ → Markup → Type 0
GoodMarkup d no_more = Unit {0}
GoodMarkup d (piece p k) = GoodPiece p × ((m : Markup) → piece p k ≢ cut m) × GoodMarkup d k
GoodMarkup zero (empty_tag t k) = ⊥
GoodMarkup (suc d) (empty_tag t k) = GoodTag t × GoodMarkup (suc d) k
GoodMarkup zero (full t i g k) = ⊥
GoodMarkup (suc d) (full t i g k) = GoodTag t × GoodMarkup d i × All is_blank g × GoodMarkup (suc d) k

-- exactly one element
abbrev pub OneElement : Markup → Type 0
OneElement no_more = ⊥
OneElement (piece p k) = ⊥
OneElement (empty_tag t k) = k ≡ no_more
OneElement (full t i g k) = k ≡ no_more

-- "Optionally exactly `<?xml version="1.0" encoding="UTF-8"?>` at byte 0"
abbrev pub declaration : Bool → List ℕ
declaration true = ascii "<?xml version=\"1.0\" encoding=\"UTF-8\"?>"
declaration false = []

-- "then blanks .., one element, blanks"
pub record Tree : Type 0 where
  pub declared : Bool
  pub before : List ℕ
  pub root : Markup
  pub after : List ℕ

abbrev pub whole : Tree → List ℕ
whole t = declaration t.declared ++ (t.before ++ (render t.root ++ t.after))

-- "Nesting is at most 16, the root being 1"
pub record GoodTree (t : Tree) : Type 0 where
  pub before : All is_blank t.before
  pub one : OneElement t.root
  pub root : GoodMarkup 16 t.root
  pub after : All is_blank t.after

pub record HouseXml (s : List ℕ) : Type 0 where
  pub tree : Tree
  pub good : GoodTree tree
  pub is : s ≡ whole tree

-- some house XML text begins so
unfoldable pub Viable : List ℕ → Type 0
Viable p = (t : List ℕ) × HouseXml (p ++ t)
