-- BOOL and NUM, and what is left of a text that loses its blanks. Assumes nothing.
use Rattle.std.specs.Prelude.{◌≡◌, Bool, true, false, ◌⊎◌, List, [], ◌∷◌, ◌++◌, ℕ, ◌+◌, ◌*◌, ◌-◌, ◌≤◌, length}
use Prim.Native.Char.{code}
use Rattle.text.specs.Bytes.{ascii, is_blank, is_digit}
use Rattle.text.specs.Lists.{All}

-- "lose blanks at both ends"; no text of the kinds that do begins or ends with a blank
pub record Trimmed (cs t : List ℕ) : Type 0 where
  pub lead : List ℕ
  pub tail : List ℕ
  pub blanks : All is_blank lead × All is_blank tail
  pub is : cs ≡ lead ++ (t ++ tail)

-- "BOOL: `true`, `1`, `false`, `0`"
abbrev pub SaysTruth : List ℕ → Bool → Type 0
SaysTruth t true = (t ≡ ascii "true") ⊎ (t ≡ ascii "1")
SaysTruth t false = (t ≡ ascii "false") ⊎ (t ≡ ascii "0")

-- the number that digits write after a
unfoldable pub decimal_from : ℕ → List ℕ → ℕ
decimal_from a [] = a
decimal_from a (x ∷ xs) = decimal_from (a * 10 + (x - code "0")) xs

-- "NUM: 1 to 18 digits"
pub record Num (t : List ℕ) (n : ℕ) : Type 0 where
  pub lengths : (1 ≤ length t) × (length t ≤ 18)
  pub digits : All is_digit t
  pub is : n ≡ decimal_from 0 t
