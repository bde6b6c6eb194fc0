-- The image of a content, over any list and any values. Assumes nothing.
use Rattle.std.specs.Prelude.{◌≡◌, List, [], ◌∷◌, ◌++◌, ℕ, ◌≤◌, length}
use Rattle.std.proofs.Math.Option.{Option, none, some}
use Rattle.text.specs.Bytes.{ascii}
use Rattle.text.specs.Numbers.{big_endian}
use Rattle.list.specs.Listing.{Leaf, Kind, group, choice, leaf, Listing, row_at}
use Rattle.list.specs.WellFormed.{LeafOk}
use Rattle.list.specs.Content.{Content, items}

-- the values of leaves: which are values of a type, the bytes of each, and how many of these stand before the value's own (a text's length)
pub record Values : Type 1 where
  pub Value : Type 0
  pub Is : Leaf → Value → Type 0
  pub bytes : Leaf → Value → List ℕ
  pub head : Leaf → ℕ

-- what is asked of them
pub record Lawful (vs : Values) : Type 0 where
  -- every type has a value
  pub has : (k : Leaf) → LeafOk k → (v : vs.Value) × vs.Is k v
  -- bytes tell the value, and none are a shorter beginning of another's
  pub prefix : (k : Leaf) (v w : vs.Value) (a b : List ℕ) → LeafOk k → vs.Is k v → vs.Is k w → vs.bytes k v ++ a ≡ vs.bytes k w ++ b → (v ≡ w) × (a ≡ b)
  pub headed : (k : Leaf) (v : vs.Value) → vs.Is k v → vs.head k ≤ length (vs.bytes k v)

-- `KTO` and a version in 16 bits
abbrev pub versioned : ℕ → List ℕ
versioned n = ascii "KTO" ++ big_endian 2 n

-- how an image of a content of the list begins: "New images are version 2: after the version comes a kind byte"
unfoldable pub header : Listing → List ℕ
header l = versioned 2 ++ (l.byte ∷ [])

module _ (vs : Values) where
  -- an element: its row and, of a leaf, its value
  abbrev pub Item : Type 0
  Item = ℕ × Option vs.Value

  module _ (l : Listing) where
    abbrev pub value_bytes : Kind → Option vs.Value → List ℕ
    value_bytes group v = []
    value_bytes choice v = []
    value_bytes (leaf k) none = []
    value_bytes (leaf k) (some v) = vs.bytes k v

    -- "An item is the row byte and, for a leaf, its value"
    abbrev pub item_bytes : Item → List ℕ
    item_bytes i = i.0 ∷ value_bytes (row_at l i.0).kind i.1

    abbrev pub items_bytes : List Item → List ℕ
    items_bytes [] = []
    items_bytes (i ∷ is) = item_bytes i ++ items_bytes is

    -- "one item per element in document order, one byte 0"
    abbrev pub body : Content vs.Value → List ℕ
    body c = items_bytes (items c) ++ (0 ∷ [])

    -- "Image: `KTO`, version .. in 16 bits", the kind byte, "one item per element in document order, one byte 0"
    unfoldable pub image : Content vs.Value → List ℕ
    image c = header l ++ body c

    -- images laid end to end
    abbrev pub images : List (Content vs.Value) → List ℕ
    images [] = []
    images (c ∷ cs) = image c ++ images cs
