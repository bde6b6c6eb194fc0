-- The types of leaves, as the walk sees them: values, and which characters spell which. Assumes nothing.
use Rattle.std.specs.Prelude.{◌≡◌, ◌↔◌, ◌≢◌, Bool, true, List, [], ◌∷◌, ℕ}
use Rattle.text.specs.Bytes.{ascii}
use Rattle.list.specs.Listing.{Leaf, ccy, amt}
use Rattle.list.specs.WellFormed.{LeafOk}
use Rattle.xml.specs.Message.{Attrs}

pub record Types : Type 1 where
  -- values, and which of them a type has
  pub A : Type 0
  pub Is : Leaf → A → Type 0
  -- which value characters spell in a type, beside the characters of a currency, which AMT alone has
  pub Spelt : Leaf → List ℕ → List ℕ → A → Type 0

-- "attributes .. exactly the type's": of an amount one, `Ccy`, "of type CCY"; of another leaf none
pub data LeafAttrs (t : Types) (k : Leaf) (ats : Attrs) : Type 0 where
  priced : k ≡ amt → (w : List ℕ) (v : t.A) → t.Spelt ccy [] w v → ats ≡ (ascii "Ccy", w) ∷ [] → LeafAttrs t k ats
  unpriced : k ≢ amt → ats ≡ [] → LeafAttrs t k ats

-- who says yes or no: to a leaf's attributes; to a type, the characters of a currency, and those of a text
pub record Judge : Type 0 where
  pub attrs : Leaf → Attrs → Bool
  pub value : Leaf → List ℕ → List ℕ → Bool

-- yes exactly where they are the type's, and where some value is spelt
pub record Decides (t : Types) (judge : Judge) : Type 0 where
  pub attrs : (k : Leaf) (ats : Attrs) → (judge.attrs k ats ≡ true) ↔ LeafAttrs t k ats
  pub value : (k : Leaf) (w cs : List ℕ) → (judge.value k w cs ≡ true) ↔ ((v : t.A) × t.Spelt k w cs v)

-- what is asked of types: what is spelt is one value, and one of its type; the empty text spells none
pub record Spelling (t : Types) : Type 0 where
  pub is : (k : Leaf) (w cs : List ℕ) (v : t.A) → t.Spelt k w cs v → t.Is k v
  pub one : (k : Leaf) (w cs : List ℕ) (u v : t.A) → LeafOk k → t.Spelt k w cs u → t.Spelt k w cs v → u ≡ v
  pub none : (k : Leaf) (w : List ℕ) (v : t.A) → LeafOk k → t.Spelt k w [] v → ⊥
