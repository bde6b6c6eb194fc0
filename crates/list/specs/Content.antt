-- Content: "the tree of rows with values"; what a list asks of one. Assumes nothing.
use Rattle.std.specs.Prelude.{◌≡◌, ◌↔◌, true, List, [], ◌∷◌, ◌++◌, ℕ, ◌≤◌, ◌<◌, length}
use Rattle.std.proofs.Math.Option.{Option, none, some}
use Rattle.text.specs.Lists.{Each}
use Rattle.list.specs.Words.{times, Ordered}
use Rattle.list.specs.Listing.{Leaf, Kind, group, choice, leaf, Count, one, optional, any, alternative, Rule, both, Listing, row_at, Child, is_group}

-- nothing more; a leaf of a row with its value, and what follows it; a group of a row, what stands in it, and what follows it
pub data Content (A : Type 0) : Type 0 where
  end : Content A
  value : ℕ → A → Content A → Content A
  node : ℕ → Content A → Content A → Content A

-- the rows of the elements that stand side by side
abbrev pub rows : {A : Type 0} → Content A → List ℕ
rows end = []
rows (value r v k) = r ∷ rows k
rows (node r c k) = r ∷ rows k

-- its elements "in document order", each with its row and, "for a leaf, its value"
abbrev pub items : {A : Type 0} → Content A → List (ℕ × Option A)
items end = []
items (value r v k) = (r, some v) ∷ items k
items (node r c k) = (r, none) ∷ (items c ++ items k)

-- how often a row may stand in its parent
abbrev pub CountOk : Count → ℕ → Type 0
CountOk one n = n ≡ 1
CountOk optional n = n ≤ 1
CountOk Count.several n = 1 ≤ n
CountOk any n = Unit {0}
CountOk alternative n = n ≤ 1

-- "rows 47 and 48 are both present or both absent"
abbrev pub Keeps : ℕ → List ℕ → Rule → Type 0
Keeps p rs (both g a b) = g ≡ p → (0 < times a rs) ↔ (0 < times b rs)

-- the children, by their rows, of an element of row p
pub record Children (l : Listing) (p : ℕ) (rs : List ℕ) : Type 0 where
  -- "Every group has at least one child element"
  pub nonempty : 0 < length rs
  pub theirs : Each (Child l p) rs
  -- "Siblings come in row order"
  pub order : Ordered rs
  pub counts : (r : ℕ) → Child l p r → CountOk (row_at l r).count (times r rs)
  -- "a choice of exactly one child"
  pub single : (row_at l p).kind ≡ choice → length rs ≡ 1
  pub rules : Each (Keeps p rs) l.rules

-- the values that a list's leaves may have are a parameter: which are values of a type
module _ {A : Type 0} (Is : Leaf → A → Type 0) (l : Listing) where
  abbrev pub ValueOf : Kind → A → Type 0
  ValueOf group v = ⊥
  ValueOf choice v = ⊥
  ValueOf (leaf k) v = Is k v

  -- every group in it keeps to its row, every leaf to its type
  abbrev pub Good : Content A → Type 0
  Good end = Unit {0}
  Good (value r v k) = ValueOf (row_at l r).kind v × Good k
  Good (node r c k) = ((is_group (row_at l r).kind ≡ true) × Children l r (rows c)) × Good c × Good k

  -- a whole content: the root, and all that is in it
  pub record Meets (c : Content A) : Type 0 where
    pub root : rows c ≡ 1 ∷ []
    pub good : Good c
