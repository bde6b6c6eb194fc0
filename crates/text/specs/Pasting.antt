-- A list written into another. Assumes nothing.
use Rattle.std.specs.Prelude.{ℕ, ◌+◌, cond, List, ◌++◌, length, take, drop, nat_le}

-- d, with vs from the place `at` on where that fits in; as it was where it does not
unfoldable pub pasted : List ℕ → ℕ → List ℕ → List ℕ
pasted d at vs = cond (nat_le (at + length vs) (length d)) (take at d ++ (vs ++ drop (at + length vs) d)) d
