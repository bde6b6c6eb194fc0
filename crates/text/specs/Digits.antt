-- Numbers in decimal digits. Assumes nothing.
use Rattle.std.specs.Prelude.{ℕ, zero, suc, ◌+◌, ◌/◌, ◌%◌, ◌^◌, cond, List, [], ◌∷◌, ◌++◌, ◌==◌, nat_lt}
use Prim.Native.Char.{code}

-- the decimal digits of n, the most significant first, where there are at most f
unfoldable pub digits : ℕ → ℕ → List ℕ
digits zero n = []
digits (suc f) n = cond (nat_lt n 10) ((code "0" + n) ∷ []) (digits f (n / 10) ++ ((code "0" + n % 10) ∷ []))

-- of which a number has no more than it counts, and one
unfoldable pub in_digits : ℕ → List ℕ
in_digits n = digits (suc n) n

-- the last k digits of n, with zeros before them where n has fewer
unfoldable pub padded : ℕ → ℕ → List ℕ
padded zero n = []
padded (suc k) n = padded k (n / 10) ++ ((code "0" + n % 10) ∷ [])

-- the digits of n with a point before the last k of them: 5 is `5`, `0.5`, `0.05`
abbrev pub pointed : ℕ → ℕ → List ℕ
pointed zero n = in_digits n
pointed (suc k) n = in_digits (n / 10 ^ suc k) ++ (code "." ∷ padded (suc k) n)

-- of that its last digit d, and the point where that stands before it
abbrev pub last_pointed : ℕ → ℕ → List ℕ
last_pointed k d = cond (k == 1) (code "." ∷ (code "0" + d) ∷ []) ((code "0" + d) ∷ [])

-- how many digits a number of 64 bits has at most, and how many bytes it is with a point and as many places as a byte counts
abbrev pub most_digits : ℕ
most_digits = 20

abbrev pub most_pointed : ℕ
most_pointed = 257
