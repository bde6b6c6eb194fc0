-- What codes 12 and 9 say by the relation `Spelt` alone: which element it is, and that no value is spelt there. Assumes nothing.
use Rattle.std.specs.Prelude.{◌≡◌, List, [], ℕ}
use Rattle.list.specs.Listing.{Leaf, Kind, group, choice, leaf, Listing, row_at, child}
use Rattle.xml.specs.Message.{Attrs, Inside, nothing_inside, character, element}
use Rattle.value.specs.Value.{Value, Spelt}
use Rattle.file_walk.specs.First.{currency_given, text_of}
use Rattle.file_walk.specs.Types.{LeafAttrs}
use Rattle.file.specs.Instance.{house_types}

-- below the root, "attributes .. exactly the type's": of a group none
abbrev pub AttrsOf : Kind → Attrs → Type 0
AttrsOf group ats = ats ≡ []
AttrsOf choice ats = ats ≡ []
AttrsOf (leaf k) ats = LeafAttrs house_types k ats

-- among the parts of an element of row p, at any depth, stands an element of row r, with its `<` at o, these attributes and these parts
pub data Occurs (l : Listing) (r o : ℕ) (ats : Attrs) (i : Inside) : ℕ → Inside → Type 0 where
  here : (p : ℕ) (n : List ℕ) (k : Inside) → child l p n ≡ r → Occurs l r o ats i p (element o n ats i k)
  after_character : (p q x : ℕ) (k : Inside) → Occurs l r o ats i p k → Occurs l r o ats i p (character q x k)
  after_element : (p q : ℕ) (n : List ℕ) (as' : Attrs) (j k : Inside) → Occurs l r o ats i p k → Occurs l r o ats i p (element q n as' j k)
  deeper : (p q : ℕ) (n : List ℕ) (as' : Attrs) (j k : Inside) → Occurs l r o ats i (child l p n) j → Occurs l r o ats i p (element q n as' j k)

-- what stands in the root
abbrev pub inner : Inside → Inside
inner nothing_inside = nothing_inside
inner (character o x k) = nothing_inside
inner (element o n ats i k) = i

-- 12: "value breaks its type": the characters of a leaf, entities resolved, spell no value of its type
pub record BadValue (l : Listing) (p : ℕ) (m : Inside) (r o : ℕ) : Type 0 where
  pub attrs : Attrs
  pub parts : Inside
  pub stands : Occurs l r o attrs parts p m
  pub type : Leaf
  pub kind : (row_at l r).kind ≡ leaf type
  pub none : (v : Value) → Spelt type (currency_given attrs) (text_of parts) v → ⊥

-- 9: "attributes not exactly the type's, or bad Ccy"
pub record BadAttributes (l : Listing) (p : ℕ) (m : Inside) (r o : ℕ) : Type 0 where
  pub attrs : Attrs
  pub parts : Inside
  pub stands : Occurs l r o attrs parts p m
  pub wrong : AttrsOf (row_at l r).kind attrs → ⊥
