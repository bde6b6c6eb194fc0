-- What the lookups answer in tables that say a well-formed list. Assumes nothing.
use Rattle.std.specs.Prelude.{◌≡◌, ◌⊎◌, List, ℕ, ◌≤◌}
use Rattle.list.specs.Listing.{size, Child, child, next_due}
use Rattle.list.specs.tables.Table.{list_of}
use Rattle.list.specs.tables.Sound.{Sound}

-- r is the lowest required child of p above q, which is a child of p or 0
abbrev pub DueNext : List ℕ → ℕ → ℕ → ℕ → Type 0
DueNext t p q r = (pool : List ℕ) → Sound t pool → p ≤ size (list_of t pool) → (q ≡ 0) ⊎ Child (list_of t pool) p q → r ≡ next_due (list_of t pool) p q

-- r is the child of p called n, whichever child came last
abbrev pub ChildCalled : List ℕ → List ℕ → ℕ → ℕ → List ℕ → ℕ → Type 0
ChildCalled t pool p last n r = Sound t pool → p ≤ size (list_of t pool) → (last ≡ 0) ⊎ Child (list_of t pool) p last → r ≡ child (list_of t pool) p n
