-- What stands in a buffer once the bytes of a value were put there. Assumes nothing.
use Rattle.std.specs.Prelude.{◌≡◌, List, [], ℕ, length}
use Rattle.text.specs.Pasting.{pasted}
use Rattle.value.specs.types.Code.{Ccy}
use Rattle.value.specs.Value.{amount, bytes}

-- bs stand in d from `at` on where they fit in, and nothing else is changed; r is their number
pub record Wrote (d : List ℕ) (at : ℕ) (bs : List ℕ) (r : ℕ) (d' : List ℕ) : Type 0 where
  pub count : r ≡ length bs
  pub is : d' ≡ pasted d at bs

-- an amount, where its currency is one
pub data AmountPut (cur : List ℕ) (scale coefficient : ℕ) (d : List ℕ) (at r : ℕ) (d' : List ℕ) : Type 0 where
  rich : Ccy cur → Wrote d at (bytes (amount cur scale coefficient)) r d' → AmountPut cur scale coefficient d at r d'
  poor : (Ccy cur → ⊥) → Wrote d at [] r d' → AmountPut cur scale coefficient d at r d'
