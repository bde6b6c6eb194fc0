-- Of what is written of an amount, only one result and one buffer fit. Assumes nothing.
use mathlib.Core.Path.{◌≡◌, sym, ◌∙◌}
use mathlib.Core.List.{List}
use Prim.Native.Nat.{ℕ}
use Rattle.value.specs.given.Wrote.{Wrote, AmountPut, rich, poor}

wrote_one : (d : List ℕ) (at : ℕ) (bs : List ℕ) (r r' : ℕ) (x y : List ℕ) → Wrote d at bs r x → Wrote d at bs r' y → (r ≡ r') × (x ≡ y)
wrote_one d at bs r r' x y w v = (w.count ∙ sym v.count, w.is ∙ sym v.is)

pub amount_put_one : (w : List ℕ) (k c : ℕ) (d : List ℕ) (at r r' : ℕ) (x y : List ℕ) → AmountPut w k c d at r x → AmountPut w k c d at r' y → (r ≡ r') × (x ≡ y)
amount_put_one w k c d at r r' x y (rich h u) (rich g v) = wrote_one d at _ r r' x y u v
amount_put_one w k c d at r r' x y (rich h u) (poor n v) = absurd (n h)
amount_put_one w k c d at r r' x y (poor n u) (rich g v) = absurd (n g)
amount_put_one w k c d at r r' x y (poor n u) (poor m v) = wrote_one d at _ r r' x y u v
