-- Which content a message has. Assumes nothing.
use Rattle.std.specs.Prelude.{◌≡◌, true, List, [], ℕ}
use Rattle.text.specs.Bytes.{is_blank}
use Rattle.list.specs.Listing.{Leaf, leaf, Listing, row_at, Child, is_group}
use Rattle.list.specs.Content.{Content, end, value, node}
use Rattle.xml.specs.Message.{Attrs, Inside, nothing_inside, character, element}
use Rattle.file_walk.specs.Types.{Types, LeafAttrs}
use Rattle.file_walk.specs.First.{text_of, currency_given, is_root, child_rows}

-- exactly one element
abbrev pub OneElement : Inside → Type 0
OneElement nothing_inside = ⊥
OneElement (character o x k) = ⊥
OneElement (element o n ats i k) = k ≡ nothing_inside

module _ (t : Types) (l : Listing) where
  -- what stands in an element of row p, and the content that it is: blanks aside, elements that are children of p by their names; a leaf's has no
  -- element in it, and spells its value
  abbrev pub Denotes : ℕ → Inside → Content t.A → Type 0
  Denotes p nothing_inside end = Unit {0}
  Denotes p nothing_inside (value r v c) = ⊥
  Denotes p nothing_inside (node r d c) = ⊥
  Denotes p (character o x k) c = (is_blank x ≡ true) × Denotes p k c
  Denotes p (element o n ats i k) end = ⊥
  Denotes p (element o n ats i k) (value r v c) =
      (Child l p r × ((row_at l r).name ≡ n)) × ((f : Leaf) × ((row_at l r).kind ≡ leaf f) × LeafAttrs t f ats × (child_rows l r i ≡ []) × t.Spelt f (currency_given ats) (text_of i) v) × Denotes p k c
  Denotes p (element o n ats i k) (node r d c) =
      (Child l p r × ((row_at l r).name ≡ n)) × ((is_group (row_at l r).kind ≡ true) × (ats ≡ [])) × Denotes r i d × Denotes p k c

  -- an element as the root, nothing after it
  pub record Rooted (n : List ℕ) (ats : Attrs) (i k : Inside) (c : Content t.A) : Type 0 where
    pub root : is_root l n ats ≡ true
    pub alone : k ≡ nothing_inside
    pub kids : Content t.A
    pub is : c ≡ node 1 kids end
    pub parts : Denotes 1 i kids

  -- the content of a message
  abbrev pub Has : Inside → Content t.A → Type 0
  Has nothing_inside c = ⊥
  Has (character o x k) c = ⊥
  Has (element o n ats i k) c = Rooted n ats i k c
