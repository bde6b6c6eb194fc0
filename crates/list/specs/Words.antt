-- Words about numbers of rows that the definitions share. Assumes nothing.
use Rattle.std.specs.Prelude.{Bool, cond, List, [], ◌∷◌, ℕ, zero, suc, ◌≤◌, eqb, ltb}
use Rattle.text.specs.Lists.{Each}

-- how often r is among rs
abbrev pub times : ℕ → List ℕ → ℕ
times r [] = 0
times r (q ∷ rs) = cond (eqb q r) (suc (times r rs)) (times r rs)

abbrev pub has : ℕ → List ℕ → Bool
has r rs = ltb 0 (times r rs)

-- "Siblings come in row order": none after a greater one
abbrev pub Ordered : List ℕ → Type 0
Ordered [] = Unit {0}
Ordered (r ∷ rs) = Each (λ q. r ≤ q) rs × Ordered rs

-- the first of the k numbers from i on that passes the test; 0 where none does
unfoldable pub first_from : (ℕ → Bool) → ℕ → ℕ → ℕ
first_from f i zero = 0
first_from f i (suc k) = cond (f i) i (first_from f (suc i) k)
