-- What holds of values, of every kind alike. Assumes nothing.
use Rattle.std.specs.Prelude.{◌≡◌, List, [], ◌++◌, ℕ, ◌+◌, ◌-◌, ◌≤◌, length}
use Rattle.text_characters.specs.Pieces.{Spells}
use Rattle.list.specs.Listing.{Leaf, ref, iban, ccy, bool, num, amt, date, dtm, txt, enum}
use Rattle.list.specs.WellFormed.{LeafOk}
use Rattle.value.specs.Value.{Value, IsValue, Spelt, bytes}
use Rattle.value.specs.Places.{number_size, amount_size}

-- how many bytes more than its raw text a value may have
abbrev pub extra : Leaf → ℕ
extra ref = 2
extra iban = 2
extra ccy = 2
extra bool = 0
extra num = number_size - 1
extra amt = amount_size - 1
extra date = 0
extra dtm = 0
extra (txt k) = 2
extra (enum ws) = 0

pub record ValueLaws : Type 0 where
  -- a text spells at most one value, and a value that its type has; the empty text spells none
  pub one : (k : Leaf) (w cs : List ℕ) (v v' : Value) → LeafOk k → Spelt k w cs v → Spelt k w cs v' → v ≡ v'
  pub is : (k : Leaf) (w cs : List ℕ) (v : Value) → Spelt k w cs v → IsValue k v
  pub none : (k : Leaf) (w : List ℕ) (v : Value) → LeafOk k → Spelt k w [] v → ⊥
  -- each type has a value
  pub some : (k : Leaf) → LeafOk k → (v : Value) × IsValue k v
  -- equal bytes, equal values, and none is a shorter beginning of another of its type
  pub prefix : (k : Leaf) (v v' : Value) (a b : List ℕ) → LeafOk k → IsValue k v → IsValue k v' → bytes v ++ a ≡ bytes v' ++ b → (v ≡ v') × (a ≡ b)
  -- a value's bytes are few, measured by the raw text that spells it
  pub short : (k : Leaf) (w s cs : List ℕ) (v : Value) → LeafOk k → Spells s cs → Spelt k w cs v → length (bytes v) ≤ length s + extra k
