-- What an image may hold and a file may not say any more: the first such item of a content. Assumes nothing.
use Rattle.std.specs.Prelude.{◌≡◌, ◌≢◌, List, ◌∷◌, ◌++◌, ℕ, ◌+◌, ◌%◌, ◌^◌, length}
use Rattle.std.proofs.Math.Option.{some}
use Rattle.text.specs.Lists.{Each}
use Rattle.list.specs.Listing.{Listing}
use Rattle.list.specs.Changed.{Gone}
use Rattle.value.specs.Value.{moment}
use Rattle.image.specs.Kinds.{values}
use Rattle.image.specs.Image.{Item, items_bytes}

-- P holds of none of them
abbrev pub NoneOf : (Item values → Type 0) → List (Item values) → Type 0
NoneOf P is = Each (λ i. P i → ⊥) is

-- the first of the items that P holds of: its row, and its place in a run where the items begin at `from`
pub record FirstAt (l : Listing) (P : Item values → Type 0) (from : ℕ) (is : List (Item values)) (row place : ℕ) : Type 0 where
  pub before : List (Item values)
  pub item : Item values
  pub rest : List (Item values)
  pub at : is ≡ before ++ (item ∷ rest)
  pub its : P item
  pub clean : NoneOf P before
  pub own : row ≡ item.0
  pub stands : place ≡ from + length (items_bytes values l before)

-- section 9: "Stored images with rows 40 and 41": an item of a row that no file of the list has any more
abbrev pub Withdrawn : Listing → Item values → Type 0
Withdrawn l i = Gone l i.0

-- "Stored images with finer fractions": a date-time with a part of a second below a thousandth
pub data Finer (i : Item values) : Type 0 where
  finer_moment : (y mo d h mi s u z : ℕ) → i.1 ≡ some (moment y mo d h mi s u z) → u % 10 ^ 3 ≢ 0 → Finer i
