-- DATE: real days, and how one is written. Assumes nothing.
use Rattle.std.specs.Prelude.{Bool, cond, ◌&&◌, ◌||◌, not, List, ◌∷◌, ℕ, ◌+◌, ◌/◌, ◌%◌, ◌≤◌, leb, ltb, eqb}
use Prim.Native.Char.{code}
use Rattle.text.specs.Bytes.{in_range}

abbrev pub leap : ℕ → Bool
leap y = eqb (y % 4) 0 && (not (eqb (y % 100) 0) || eqb (y % 400) 0)

abbrev pub month_days : ℕ → ℕ → ℕ
month_days y m =
    cond (eqb m 2) (cond (leap y) 29 28)
    (cond (eqb m 4 || eqb m 6 || eqb m 9 || eqb m 11) 30 (cond (leb 1 m && leb m 12) 31 0))

-- "a real Gregorian day, year 0001 to 9999"
pub record Real (y m d : ℕ) : Type 0 where
  pub year : (1 ≤ y) × (y ≤ 9999)
  pub month : (1 ≤ m) × (m ≤ 12)
  pub day : (1 ≤ d) × (d ≤ month_days y m)

-- the same, decided; what is no month has no days
unfoldable pub is_real : ℕ → ℕ → ℕ → Bool
is_real y m d = in_range 1 9999 y && in_range 1 (month_days y m) d

-- the day after a day: year, month, day
abbrev pub next_day : ℕ → ℕ → ℕ → ℕ × ℕ × ℕ
next_day y m d = cond (ltb d (month_days y m)) (y, m, d + 1) (cond (ltb m 12) (y, m + 1, 1) (y + 1, 1, 1))

-- the two digits of a number below 100, then t
abbrev pub pair : ℕ → List ℕ → List ℕ
pair n t = (code "0" + n / 10) ∷ (code "0" + n % 10) ∷ t

-- "`YYYY-MM-DD`", then t
abbrev pub day_text : ℕ → ℕ → ℕ → List ℕ → List ℕ
day_text y m d t = pair (y / 100) (pair (y % 100) (code "-" ∷ pair m (code "-" ∷ pair d t)))
