-- A mirror: how the first item is found that no file may say any more. Assumes nothing.
use Rattle.std.specs.Prelude.{◌≡◌, Bool, ◌&&◌, not, cond, List, ◌∷◌, ◌++◌, ℕ, ◌+◌, ◌%◌, ◌^◌, ◌≤◌, ◌<◌, eqb, length, get_or, take, drop, Option, None, Some}
use Rattle.std.proofs.Math.Option.{none}
use Rattle.answer.specs.Table.{limit}
use Rattle.text.specs.Lists.{Each}
use Rattle.text.specs.Numbers.{number}
use Rattle.list.specs.Listing.{Listing, size}
use Rattle.list.specs.tables.Table.{list_of}
use Rattle.list.specs.tables.Sound.{Sound}
use Rattle.image.specs.Image.{Item, items_bytes}
use Rattle.image.specs.Kinds.{values}
use Rattle.image.specs.mirror.Follow.{ItemOk}
use Rattle.file_letter.specs.Stale.{NoneOf, FirstAt, Withdrawn, Finer}
use Rattle.list.specs.tables.Columns.{DTM}
use Rattle.value.specs.Places.{stored_micros}

-- a place that is found; 0 where there is none
abbrev pub place_in : Option ℕ → ℕ
place_in None = 0
place_in (Some p) = p

-- of the kind with the number k, from the bytes of its value on: a DTM, whose microseconds are no thousandths
unfoldable pub finer_by : ℕ → List ℕ → Bool
finer_by k s = eqb k DTM && not (eqb (number (take 4 (drop stored_micros s)) % 10 ^ 3) 0)

-- the place that was noted, or else that of the leaf at i where it is finer
unfoldable pub noted_by : ℕ → ℕ → List ℕ → ℕ → ℕ
noted_by f k run i = cond (eqb f 0) (cond (finer_by k (drop (i + 1) run)) i 0) f

-- an item of a row of the table, and of its kind
abbrev pub ItemOf : List ℕ → List ℕ → Item values → Type 0
ItemOf t pool i = (0 < i.0) × (i.0 ≤ size (list_of t pool)) × ItemOk values (list_of t pool) i.0 i.1

-- the items that stand in a run from `from` on: the root's, then these, then the closing 0
pub record Lined (t pool run : List ℕ) (from : ℕ) : Type 0 where
  pub kids : List (Item values)
  pub rest : List ℕ
  pub at : drop from run ≡ 1 ∷ (items_bytes values (list_of t pool) kids ++ (0 ∷ rest))
  pub each : Each (ItemOf t pool) kids

-- what the search asks: a well-formed list, such items, in a run within the limit
pub record Searched (t pool run : List ℕ) (from : ℕ) : Type 0 where
  pub sound : Sound t pool
  pub within : length run ≤ limit
  pub lined : Lined t pool run from

-- the place of the first item that is finer, of items that begin at `from`; 0 where none is
pub data FirstFiner (l : Listing) (run : List ℕ) (from : ℕ) (is : List (Item values)) (r : ℕ) : Type 0 where
  clear : r ≡ 0 → NoneOf Finer is → FirstFiner l run from is r
  found : 0 < r → r < length run → FirstAt l Finer from is (get_or run r 0) r → FirstFiner l run from is r

-- the same of the first item of a row that is gone, and where none is, of the first that is finer
pub data FirstStale (l : Listing) (run : List ℕ) (from : ℕ) (is : List (Item values)) (r : ℕ) : Type 0 where
  lost : 0 < r → r < length run → FirstAt l (Withdrawn l) from is (get_or run r 0) r → FirstStale l run from is r
  kept : NoneOf (Withdrawn l) is → FirstFiner l run from is r → FirstStale l run from is r

-- of whatever items stand there
abbrev pub Stale : List ℕ → List ℕ → List ℕ → ℕ → ℕ → Type 0
Stale t pool run from r = (w : Lined t pool run from) → FirstStale (list_of t pool) run from ((1, none) ∷ w.kids) r
