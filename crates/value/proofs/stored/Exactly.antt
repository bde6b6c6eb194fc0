-- What it is that bytes are exactly those of a kind's values; the numbers in them. Assumes nothing.
use mathlib.Core.Path.{◌≡◌}
use mathlib.Core.Bool.{Bool, true}
use mathlib.Core.List.{List, ◌++◌}
use Prim.Native.Nat.{ℕ, ◌+◌, ◌≤◌, ◌<◌}
use native.Mathlib.Omega.{arith}
use lib.ListN.{length, take, drop, length-drop}
use lib.Seq.{length-take-le}
use Rattle.text.specs.Lists.{Each}
use Rattle.text.specs.Numbers.{big_endian, number}
use Rattle.text.proofs.Numbers.{Byte, big_number_of}
use Rattle.list.specs.Listing.{Leaf}
use Rattle.value.specs.Value.{Value, IsValue, bytes}
use Rattle.value.proofs.stored.Listed.{bytes_take, bytes_drop}

-- the bytes u are those of a value
pub record Stored (f : Leaf) (u : List ℕ) : Type 0 where
  pub value : Value
  pub is : IsValue f value
  pub same : u ≡ bytes value

-- and the bytes of a value pass
pub record Passes (h : ℕ) (wide : List ℕ → ℕ) (judge : List ℕ → Bool) (v : Value) : Type 0 where
  pub good : judge (drop h (bytes v)) ≡ true
  pub long : (t : List ℕ) → wide (bytes v ++ t) ≡ length (bytes v)
  pub small : Each Byte (bytes v)
  pub some : 0 < length (bytes v)

-- of a kind's values, whose first h bytes say their length
pub record Exact (f : Leaf) (h : ℕ) (wide : List ℕ → ℕ) (judge : List ℕ → Bool) : Type 0 where
  pub sound : (u : List ℕ) → Each Byte u → length u ≡ wide u → judge (drop h u) ≡ true → Stored f u
  pub complete : (v : Value) → IsValue f v → Passes h wide judge v

-- the number that w bytes from i on write, written again
pub number_at : (u : List ℕ) (i w : ℕ) → Each Byte u → i + w ≤ length u → big_endian w (number (take w (drop i u))) ≡ take w (drop i u)
number_at u i w b h =
    big_number_of w (take w (drop i u)) (length-take-le w (drop i u) (omega (arith, length-drop i u))) (bytes_take w (drop i u) (bytes_drop i u b))
