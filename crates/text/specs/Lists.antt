-- Words about lists of bytes that every layer shares. Assumes nothing.
use Rattle.std.specs.Prelude.{◌≡◌, ℕ, zero, suc, ◌≤◌, Bool, true, false, cond, ◌&&◌, ◌⊎◌, List, [], ◌∷◌, length, take, ◌==◌}

-- P holds of each
abbrev pub Each : {A : Type 0} → (A → Type 0) → List A → Type 0
Each P [] = Unit {0}
Each P (x ∷ xs) = P x × Each P xs

-- every one passes the test
abbrev pub All : (ℕ → Bool) → List ℕ → Type 0
All p xs = Each (λ (x : ℕ). p x ≡ true) xs

-- one at least passes the test
abbrev pub Any : (ℕ → Bool) → List ℕ → Type 0
Any p [] = ⊥
Any p (x ∷ xs) = (p x ≡ true) ⊎ Any p xs

-- one that passes the first test, then any number that pass the second
abbrev pub Begins : (ℕ → Bool) → (ℕ → Bool) → List ℕ → Type 0
Begins p q [] = ⊥
Begins p q (x ∷ xs) = (p x ≡ true) × All q xs

-- the longest beginning of s that is as P says: its n bytes
pub record LongestBeginning (P : List ℕ → Type 0) (s : List ℕ) (n : ℕ) : Type 0 where
  pub within : n ≤ length s
  pub begins : P (take n s)
  pub most : (k : ℕ) → k ≤ length s → P (take k s) → k ≤ n

-- how many pass the test before the first that does not
unfoldable pub span : (ℕ → Bool) → List ℕ → ℕ
span p [] = zero
span p (x ∷ xs) = cond (p x) (suc (span p xs)) zero

-- equal lists, tested
unfoldable pub same : List ℕ → List ℕ → Bool
same [] [] = true
same [] (y ∷ ys) = false
same (x ∷ xs) [] = false
same (x ∷ xs) (y ∷ ys) = x == y && same xs ys
