-- Where a stored value ends: what `value_end` answers at a leaf of a list. Assumes nothing.
use Rattle.std.specs.Prelude.{◌≡◌, List, ◌++◌, ℕ, ◌+◌, length, drop}
use Rattle.list.specs.Listing.{Leaf, leaf}
use Rattle.list.specs.WellFormed.{LeafOk}
use Rattle.list.specs.tables.Table.{kind_of}
use Rattle.list.specs.tables.Sound.{word_count}
use Rattle.value.specs.Value.{Value, IsValue, bytes}

-- the bytes of a value of type f stand at a place of s, and r is the place after them
pub record Taken (f : Leaf) (s : List ℕ) (at r : ℕ) : Type 0 where
  pub value : Value
  pub is : IsValue f value
  pub here : drop at s ≡ bytes value ++ drop r s
  pub ends : r ≡ at + length (bytes value)

-- the bytes of no value of type f stand there
abbrev pub None : Leaf → List ℕ → ℕ → Type 0
None f s at = (v : Value) (u : List ℕ) → IsValue f v → drop at s ≡ bytes v ++ u → ⊥

-- the place after the value that stands there; 0 where none does
pub data Ends (f : Leaf) (s : List ℕ) (at r : ℕ) : Type 0 where
  taken : Taken f s at r → Ends f s at r
  nothing : r ≡ 0 → None f s at → Ends f s at r

-- the same by numbers, c for the kind, k for TXTk's and n for how many words an ENUM has: the end of the value of whichever leaf of a
-- well-formed list they are
abbrev pub EndsBy : ℕ → ℕ → ℕ → List ℕ → ℕ → ℕ → Type 0
EndsBy c k n s at r = (f : Leaf) (ws : List (List ℕ)) → LeafOk f → n ≡ word_count (leaf f) → kind_of c k ws ≡ leaf f → Ends f s at r
