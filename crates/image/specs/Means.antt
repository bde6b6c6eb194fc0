-- What the reader and the picker answer over tables that say a well-formed list, of a run s: document 01's answers. Assumes nothing.
use Rattle.std.specs.Prelude.{◌≡◌, true, List, ℕ, ◌≤◌, ◌<◌, drop}
use Rattle.answer.specs.declared.Answer.{Answer}
use Rattle.list.specs.Listing.{Leaf, leaf, size, row_at, is_group}
use Rattle.list.specs.tables.Table.{list_of}
use Rattle.list.specs.tables.Sound.{Sound}
use Rattle.value.specs.given.Stands.{Ends}
use Rattle.image.specs.Kinds.{values}
use Rattle.image.specs.Place.{Holds, Tells}
use Rattle.image.specs.Count.{Taken}
use Rattle.image.specs.Pick.{Selects}

-- t is the first table of the two
module _ (t s : List ℕ) where
  -- an item of row x, whose row byte stands before i, ends at e: a group's is that byte alone, a leaf's goes on with its value
  abbrev pub ItemEnds : ℕ → ℕ → ℕ → Type 0
  ItemEnds x i e =
      (pool : List ℕ) → Sound t pool → 0 < x → x ≤ size (list_of t pool) →
      (is_group (row_at (list_of t pool) x).kind ≡ true → e ≡ i) × ((f : Leaf) → (row_at (list_of t pool) x).kind ≡ leaf f → Ends f s i e)

  -- what is answered for the items from a place on, and how many are taken
  abbrev pub Told : ℕ → Answer → ℕ → Type 0
  Told from a n = (pool : List ℕ) → Sound t pool → Tells values (list_of t pool) (drop from s) from a × Taken values (list_of t pool) (drop from s) a n

  -- what is answered, and what is handed back, for a content whose items begin at a place
  abbrev pub SelectsAnswer : ℕ → ℕ → ℕ → Answer → Type 0
  SelectsAnswer from r n a =
      (pool : List ℕ) → Sound t pool → (k : ℕ) (w : Holds values (list_of t pool) (drop from s) k) →
      (part : List ℕ) × Selects values (list_of t pool) from w.content r n a part

  abbrev pub SelectsPart : ℕ → ℕ → ℕ → List ℕ → Type 0
  SelectsPart from r n part =
      (pool : List ℕ) → Sound t pool → (k : ℕ) (w : Holds values (list_of t pool) (drop from s) k) →
      (a : Answer) × Selects values (list_of t pool) from w.content r n a part
