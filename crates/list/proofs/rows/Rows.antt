-- The cells of a row are the row's. Assumes nothing.
use mathlib.Core.Path.{◌≡◌, refl, ◌∙◌, ap}
use mathlib.Core.List.{List}
use Prim.Native.Nat.{ℕ, zero, suc, ◌+◌, ◌≤◌, ◌<◌}
use native.Mathlib.Omega.{arith}
use lib.ListN.{length, get_or}
use Rattle.list.specs.Listing.{Row, size, no_row, row_at}
use Rattle.list.specs.tables.Table.{cell, count_of, kind_of, name_in, words_in, row_of, rows_from, list_of}

module _ (t pool : List ℕ) where
  rows_length : (i k : ℕ) → length (rows_from t pool i k) ≡ k
  unfolding rows_from
  rows_length i zero = refl
  rows_length i (suc k) = ap suc (rows_length (suc i) k)

  rows_at : (i k j : ℕ) → j < k → get_or (rows_from t pool i k) j no_row ≡ row_of t pool (i + j)
  unfolding rows_from
  rows_at i zero j h = absurd (omega arith)
  rows_at i (suc k) zero h = ap (row_of t pool) (omega arith)
  rows_at i (suc k) (suc j) h = rows_at (suc i) k j (omega arith) ∙ ap (row_of t pool) (omega arith)

  -- row 0's first cell is the number of rows
  pub size_is : size (list_of t pool) ≡ cell t 0 0
  unfolding list_of
  size_is = rows_length 1 (cell t 0 0)

  module _ (r : ℕ) (a : 0 < r) (b : r ≤ cell t 0 0) where
    pub row_is : row_at (list_of t pool) r ≡ row_of t pool r
    unfolding row_at list_of
    row_is = go r a b
      where
        go : (r : ℕ) → 0 < r → r ≤ cell t 0 0 → row_at (list_of t pool) r ≡ row_of t pool r
        go zero a b = absurd (omega arith)
        go (suc i) a b = rows_at 1 (cell t 0 0) i (omega arith) ∙ ap (row_of t pool) (omega arith)

    pub parent_is : (row_at (list_of t pool) r).parent ≡ cell t r 0
    unfolding row_of
    parent_is = ap (λ (x : Row). x.parent) row_is

    pub count_is : (row_at (list_of t pool) r).count ≡ count_of (cell t r 1)
    unfolding row_of
    count_is = ap (λ (x : Row). x.count) row_is

    pub kind_is : (row_at (list_of t pool) r).kind ≡ kind_of (cell t r 2) (cell t r 3) (words_in t pool r)
    unfolding row_of
    kind_is = ap (λ (x : Row). x.kind) row_is

    pub name_is : (row_at (list_of t pool) r).name ≡ name_in t pool r
    unfolding row_of
    name_is = ap (λ (x : Row). x.name) row_is
