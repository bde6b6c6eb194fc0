-- A mirror: how the lookups go over the two tables. Assumes nothing.
use Rattle.std.specs.Prelude.{cond, List, ℕ, zero, suc, eqb, ltb}
use Rattle.text.specs.Lists.{same}
use Rattle.list.specs.tables.Columns.{CHILD, SIBLING, DUE-CHILD, DUE-SIBLING}
use Rattle.list.specs.tables.Table.{cell, name_in}

-- the lowest required child of p above q, which is 0 or a child of p
unfoldable pub due_after : List ℕ → ℕ → ℕ → ℕ
due_after t p q = cond (eqb q 0) (cell t p DUE-CHILD) (cell t q DUE-SIBLING)

-- the first row called n among r and the siblings after it, of which at most k are looked at; 0 where there is none
unfoldable pub along : List ℕ → List ℕ → List ℕ → ℕ → ℕ → ℕ
along t pool n zero r = 0
along t pool n (suc k) r = cond (eqb r 0) 0 (cond (same (name_in t pool r) n) r (along t pool n k (cell t r SIBLING)))

-- p's child called n: first among the child that came last (0: none) and the siblings after it, where the next one mostly is; then among all
unfoldable pub child_along : List ℕ → List ℕ → ℕ → ℕ → List ℕ → ℕ
child_along t pool p last n = cond (ltb 0 (along t pool n 255 last)) (along t pool n 255 last) (along t pool n 255 (cell t p CHILD))
