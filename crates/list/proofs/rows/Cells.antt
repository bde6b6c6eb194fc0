-- A cell, by where it stands. Assumes nothing.
use mathlib.Core.Path.{◌≡◌, refl, sym, ◌∙◌}
use mathlib.Core.List.{List}
use Prim.Native.Nat.{ℕ, ◌+◌, ◌*◌, ◌≤◌, ◌<◌}
use lib.ListN.{length, get_or, get_or-eq_default}
use borrow.Author.Tests.{le-leb, lt-leb}
use Rattle.list.specs.tables.Table.{cell}

module _ (t : List ℕ) (r j : ℕ) where
  pub no_column : 15 < j → 0 ≡ cell t r j
  unfolding cell
  no_column h = rw (lt-leb j 15 h) refl

  pub cell_at : j ≤ 15 → r ≤ 255 → cell t r j ≡ get_or t (16 * r + j) 0
  unfolding cell
  cell_at h k = rw (le-leb j 15 h, le-leb r 255 k) refl

  pub no_row : j ≤ 15 → 255 < r → 0 ≡ cell t r j
  unfolding cell
  no_row h k = rw (le-leb j 15 h, lt-leb r 255 k) refl

  pub no_cell : j ≤ 15 → r ≤ 255 → length t ≤ 16 * r + j → 0 ≡ cell t r j
  no_cell h k e = sym (cell_at h k ∙ get_or-eq_default t 0 e)
