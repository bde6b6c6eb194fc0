-- DTM: moments by their written parts. Assumes nothing.
use Rattle.std.specs.Prelude.{◌≡◌, ◌≢◌, List, [], ◌∷◌, ◌++◌, ℕ, ◌+◌, ◌*◌, ◌-◌, ◌/◌, ◌%◌, ◌^◌, ◌≤◌, ◌<◌}
use Prim.Native.Char.{code}
use Rattle.text.specs.Bytes.{ascii}
use Rattle.text.specs.Digits.{padded}
use Rattle.value.specs.types.Day.{Real, pair, day_text, next_day}

abbrev pub clock_text : ℕ → ℕ → ℕ → List ℕ → List ℕ
clock_text h m s t = pair h (code ":" ∷ pair m (code ":" ∷ pair s t))

-- which parts there are: "`hh:mm:ss` up to 23:59:59", u microseconds, z minutes of offset plus 840
pub record Parts (y mo d h mi s u z : ℕ) : Type 0 where
  pub day : Real y mo d
  pub clock : (h ≤ 23) × (mi ≤ 59) × (s ≤ 59)
  pub fraction : u < 10 ^ 6
  pub zone : z ≤ 840 + 840

-- none, or "a point and one to three digits, the last not zero"; "fractions count in microseconds, an absent one as 0"
pub data FractionText (t : List ℕ) (u : ℕ) : Type 0 where
  fractionless : t ≡ [] → u ≡ 0 → FractionText t u
  thousandths : (k n : ℕ) → (1 ≤ k) × (k ≤ 3) → n < 10 ^ k → n % 10 ≢ 0 → t ≡ code "." ∷ padded k n → u ≡ n * 10 ^ (6 - k) → FractionText t u

-- so many minutes as `hh:mm`
abbrev pub hours_text : ℕ → List ℕ
hours_text m = pair (m / 60) (code ":" ∷ pair (m % 60) [])

-- "then `Z` or sign `hh:mm`, minutes at most 59, up to 14:00"; "offset minutes plus 840"; "`Z`, `+00:00`, `-00:00` are equal"
pub data ZoneText (t : List ℕ) (z : ℕ) : Type 0 where
  utc : t ≡ ascii "Z" → z ≡ 840 → ZoneText t z
  east : (m : ℕ) → m ≤ 840 → t ≡ code "+" ∷ hours_text m → z ≡ 840 + m → ZoneText t z
  west : (m : ℕ) → m ≤ 840 → t ≡ code "-" ∷ hours_text m → z ≡ 840 - m → ZoneText t z

-- which texts write which parts: "DATE, `T`, `hh:mm:ss` .., optionally a point and .. digits, then `Z` or sign `hh:mm`";
-- "also allows 24:00:00, without fraction: its content is 00:00:00 of the next day, and on 9999-12-31 it is refused": year 10000 is no part
pub data MomentText (t : List ℕ) (y mo d h mi s u z : ℕ) : Type 0 where
  in_day : (f o : List ℕ) → FractionText f u → ZoneText o z → t ≡ day_text y mo d (code "T" ∷ clock_text h mi s (f ++ o)) → MomentText t y mo d h mi s u z
  day_end : (y' mo' d' : ℕ) → Real y' mo' d' → next_day y' mo' d' ≡ (y, mo, d) → (h ≡ 0) × (mi ≡ 0) × (s ≡ 0) × (u ≡ 0)
      → (o : List ℕ) → ZoneText o z → t ≡ day_text y' mo' d' (code "T" ∷ clock_text 24 0 0 o) → MomentText t y mo d h mi s u z
