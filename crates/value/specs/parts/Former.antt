-- DTM by both rules, the former and the present: a fraction and a zone as parts, each with its text. Of the present rule `Moment` says the same (proofs/types/Shaped). Assumes nothing.
use Rattle.std.specs.Prelude.{◌≡◌, ◌≢◌, ◌⊎◌, List, [], ◌∷◌, ℕ, zero, suc, ◌+◌, ◌*◌, ◌-◌, ◌/◌, ◌%◌, ◌^◌, ◌≤◌, ◌<◌}
use Prim.Native.Char.{code}
use Rattle.value.specs.types.Day.{Real, pair, day_text, next_day}
use Rattle.value.specs.types.Moment.{clock_text}

-- "the former and the new date-time rule"
pub data DateRule : Type 0 where
  former present : DateRule

-- "`hh:mm:ss` up to 23:59:59"
abbrev pub Clock : ℕ → ℕ → ℕ → Type 0
Clock h m s = (h ≤ 23) × (m ≤ 59) × (s ≤ 59)

-- none, or a point and the last k digits of n
pub data Fraction : Type 0 where
  no_fraction : Fraction
  decimals : (k n : ℕ) → Fraction

-- the last k digits of n, then t
unfoldable pub figures : ℕ → ℕ → List ℕ → List ℕ
figures zero n t = t
figures (suc k) n t = figures k (n / 10) ((code "0" + n % 10) ∷ t)

abbrev pub fraction_text : Fraction → List ℕ → List ℕ
fraction_text no_fraction t = t
fraction_text (decimals k n) t = code "." ∷ figures k n t

-- "optionally a point and three or six digits"; "now a point and one to three digits, the last not zero"
abbrev pub FractionOk : DateRule → Fraction → Type 0
FractionOk r no_fraction = Unit {0}
FractionOk former (decimals k n) = ((k ≡ 3) ⊎ (k ≡ 6)) × (n < 10 ^ k)
FractionOk present (decimals k n) = ((1 ≤ k) × (k ≤ 3)) × (n < 10 ^ k) × (n % 10 ≢ 0)

-- "fractions count in microseconds, an absent one as 0"
abbrev pub micros : Fraction → ℕ
micros no_fraction = 0
micros (decimals k n) = n * 10 ^ (6 - k)

-- "then `Z` or sign `hh:mm`"
pub data Zone : Type 0 where
  zulu : Zone
  ahead behind : ℕ → ℕ → Zone

abbrev pub zone_text : Zone → List ℕ → List ℕ
zone_text zulu t = code "Z" ∷ t
zone_text (ahead h m) t = code "+" ∷ pair h (code ":" ∷ pair m t)
zone_text (behind h m) t = code "-" ∷ pair h (code ":" ∷ pair m t)

-- "minutes at most 59, up to 14:00"
pub record Offset (h m : ℕ) : Type 0 where
  pub minutes : m ≤ 59
  pub most : h * 60 + m ≤ 840

abbrev pub ZoneOk : Zone → Type 0
ZoneOk zulu = Unit {0}
ZoneOk (ahead h m) = Offset h m
ZoneOk (behind h m) = Offset h m

-- "offset minutes plus 840"; "`Z`, `+00:00`, `-00:00` are equal"
abbrev pub offset : Zone → ℕ
offset zulu = 840
offset (ahead h m) = 840 + (h * 60 + m)
offset (behind h m) = 840 - (h * 60 + m)

-- "DATE, `T`, `hh:mm:ss` .., optionally a point and .. digits, then `Z` or sign `hh:mm`"
pub record PlainText (rule : DateRule) (t : List ℕ) (y mo d h mi s u z : ℕ) : Type 0 where
  pub day : Real y mo d
  pub clock : Clock h mi s
  pub fraction : Fraction
  pub zone : Zone
  pub good : FractionOk rule fraction × ZoneOk zone
  pub is : t ≡ day_text y mo d (code "T" ∷ clock_text h mi s (fraction_text fraction (zone_text zone [])))
  pub parts : (u ≡ micros fraction) × (z ≡ offset zone)

-- "also allows 24:00:00, without fraction: its content is 00:00:00 of the next day, and on 9999-12-31 it is refused": year 10000 has no real day
pub record MidnightText (t : List ℕ) (y mo d h mi s u z : ℕ) : Type 0 where
  pub year : ℕ
  pub month : ℕ
  pub date : ℕ
  pub day : Real year month date
  pub next : next_day year month date ≡ (y, mo, d)
  pub real : Real y mo d
  pub zone : Zone
  pub good : ZoneOk zone
  pub is : t ≡ day_text year month date (code "T" ∷ clock_text 24 0 0 (zone_text zone []))
  pub clock : (h ≡ 0) × (mi ≡ 0) × (s ≡ 0)
  pub parts : (u ≡ 0) × (z ≡ offset zone)

pub data MomentBy (rule : DateRule) (t : List ℕ) (y mo d h mi s u z : ℕ) : Type 0 where
  ordinary : PlainText rule t y mo d h mi s u z → MomentBy rule t y mo d h mi s u z
  midnight : rule ≡ present → MidnightText t y mo d h mi s u z → MomentBy rule t y mo d h mi s u z
