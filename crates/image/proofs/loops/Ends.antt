-- Where an item ends. Assumes nothing.
use mathlib.Core.Path.{◌≡◌, sym}
use mathlib.Core.Bool.{Bool, true, false, cond}
use mathlib.Core.List.{List}
use Prim.Native.Nat.{ℕ, ◌≤◌, ◌<◌}
use native.Mathlib.Omega.{arith}
use Rattle.list.specs.tables.Table.{cell}
use Rattle.value.specs.mirror.Ends.{value_end}
use Rattle.value.proofs.stored.Meaning.{end_is}
use Rattle.image.specs.mirror.Step.{is_leaf}
use Rattle.image.specs.mirror.Ends.{item_end}

-- an item's end is not before its value's place
pub item_on : (t s : List ℕ) (x i : ℕ) → 0 < item_end t s x i → i ≤ item_end t s x i
unfolding item_end
item_on t s x i h = go (is_leaf t x) h
  where
    go : (b : Bool) → 0 < cond b (value_end (cell t x 2) (cell t x 3) (cell t x 15) s i) i → i ≤ cond b (value_end (cell t x 2) (cell t x 3) (cell t x 15) s i) i
    go true h = omega (arith, (end_is (cell t x 2) (cell t x 3) (cell t x 15) s i h).1)
    go false h = omega arith

-- as the code finds it: at a leaf's row, by what its cells say
module _ (t s : List ℕ) (x i : ℕ) (b : Bool) (e : b ≡ is_leaf t x) where
  pub item_leaf : b ≡ true → (c k n j : ℕ) → c ≡ cell t x 2 → k ≡ cell t x 3 → n ≡ cell t x 15 → j ≡ value_end c k n s i → j ≡ item_end t s x i
  unfolding item_end
  item_leaf y c k n j f g h v = rw (sym e, y, sym f, sym g, sym h) v

  pub item_group : b ≡ false → i ≡ item_end t s x i
  unfolding item_end
  item_group y = rw (sym e, y)
