-- What well-formedness says of a single row, in one place. Assumes nothing.
use Rattle.std.specs.Prelude.{◌≡◌, true, ◌≢◌, ◌⊎◌, [], ℕ, suc, ◌≤◌, ◌<◌}
use Rattle.text.specs.Bytes.{is_name_start, is_name_part}
use Rattle.text.specs.Lists.{Begins}
use Rattle.list.specs.Listing.{group, choice, alternative, Listing, row_at, Child, is_group, up}
use Rattle.list.specs.WellFormed.{KindOk}
use Rattle.list.specs.tables.Sound.{level}

-- row r of the list, whose parent is p
pub record EachRow (l : Listing) (p r : ℕ) : Type 0 where
  -- "row 1 the only root"; "parents before children, the parents exactly the groups and choices"
  pub parent : ((p ≡ 0) × (r ≡ 1)) ⊎ ((0 < p) × (is_group (row_at l p).kind ≡ true))
  pub before : p < r
  pub filled : is_group (row_at l r).kind ≡ true → (q : ℕ) × Child l r q
  -- "at most 255 rows and 16 levels"
  pub byte : r ≤ 255
  pub levels : up l 16 r ≡ 0
  pub deeper : level l r ≡ suc (level l p)
  -- "names by the XML rules below, different among siblings"; none, where no file may have the row any more
  pub name : ((row_at l r).name ≡ []) ⊎ Begins is_name_start is_name_part (row_at l r).name
  pub apart : (q : ℕ) → Child l p q → (row_at l r).name ≡ (row_at l q).name → r ≡ q
  -- "counts of the four forms used here, none within a choice"
  pub counted : (row_at l p).kind ≡ group → (row_at l r).count ≢ alternative
  pub uncounted : (row_at l p).kind ≡ choice → (row_at l r).count ≡ alternative
  -- "k at most 140; each ENUM one to 255 different words of capitals"
  pub kind : KindOk (row_at l r).kind
