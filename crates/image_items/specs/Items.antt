-- One item of the image that a run begins with: what stands at a place, judged alone. Assumes nothing.
use Rattle.std.specs.Prelude.{◌≡◌, true, List, ◌∷◌, ◌++◌, ℕ, ◌+◌, ◌≤◌, ◌<◌, length, drop, Option, None, Some, Result, Ok, Err}
use Rattle.answer.specs.declared.Answer.{Answer}
use Rattle.answer.specs.Table.{picked, broken_image}
use Rattle.list.specs.Listing.{Leaf, leaf, Listing, size, row_at, is_group}
use Rattle.value.specs.Value.{Value, IsValue, bytes}
use Rattle.image.specs.Kinds.{length_bytes}
use Rattle.image.specs.Place.{Among, Front}
use Rattle.image_reading.specs.Reads.{stored}
use Rattle.image_items.specs.declared.item.ItemAt.{ItemAt}

-- what is answered for what stands at a place, and how many bytes its value has: an item's row and the place of its value; that none stands there
abbrev pub answer_at : ℕ → Option ItemAt → Answer
answer_at from None = broken_image from
answer_at from (Some i) = picked i.row i.place

abbrev pub size_in : Option ItemAt → ℕ
size_in None = 0
size_in (Some i) = i.size

-- the same of a result, whose refusal is its own answer
abbrev pub answer_of : Result ItemAt Answer → Answer
answer_of (Ok i) = picked i.row i.place
answer_of (Err a) = a

abbrev pub size_of : Result ItemAt Answer → ℕ
size_of (Ok i) = i.size
size_of (Err a) = 0

-- the list that items are judged by: the run begins as its images do
pub record SaysList (run : List ℕ) (l : Listing) : Type 0 where
  pub among : Among l stored
  pub head : List ℕ
  pub front : Front l head
  pub after : List ℕ
  pub at : run ≡ head ++ after

-- the row of the item that stands at `from`, where its value's bytes lie and how many they are: n bytes from `place` on, after which the
-- next item stands (D71)
pub data Stands (l : Listing) (run : List ℕ) (from row place n : ℕ) : Type 0 where
  -- row 0 at the closing byte
  closes : row ≡ 0 → (rest : List ℕ) → drop from run ≡ 0 ∷ rest → place ≡ from + 1 → n ≡ 0 → Stands l run from row place n
  -- a group has none; an item of it is its row byte
  opens : 0 < row → row ≤ size l → is_group (row_at l row).kind ≡ true → (rest : List ℕ) → drop from run ≡ row ∷ rest
      → place ≡ from + 1 → n ≡ 0 → Stands l run from row place n
  -- a leaf: "the row byte and .. its value", a value of its type; its own bytes are all but the length that a text begins with
  holds : 0 < row → row ≤ size l → (type : Leaf) → (row_at l row).kind ≡ leaf type → (value : Value) → IsValue type value
      → (rest : List ℕ) → drop from run ≡ row ∷ (bytes value ++ rest)
      → place ≡ from + 1 + length_bytes type → place + n ≡ from + 1 + length (bytes value) → Stands l run from row place n

-- what is answered, and how many bytes
pub data HouseItem (run : List ℕ) (from : ℕ) (a : Answer) (n : ℕ) : Type 0 where
  -- the call goes over the image that a run begins with: an item of its list
  standing : (l : Listing) → SaysList run l → (row place : ℕ) → Stands l run from row place n → a ≡ picked row place → HouseItem run from a n
  -- code 17 with place `from` where no whole item of the list stands there: so wherever no image begins
  lacking : ((l : Listing) → SaysList run l → (row place m : ℕ) → Stands l run from row place m → ⊥) → a ≡ broken_image from → n ≡ 0 → HouseItem run from a n
