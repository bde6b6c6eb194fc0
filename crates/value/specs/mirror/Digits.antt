-- A mirror: digits by one and two, and what stands at the front of a text. Assumes nothing.
use Rattle.std.specs.Prelude.{◌≡◌, Bool, true, List, [], ◌∷◌, ℕ, ◌+◌, ◌≤◌, cond, eqb, drop, Option, Some, None}
use Prim.Native.Char.{code}
use Rattle.value.specs.types.Day.{Real, pair, day_text, next_day}
use Rattle.value.specs.parts.Former.{Clock, present, Fraction, FractionOk, fraction_text, micros, Zone, ZoneOk, zone_text, offset}
use Rattle.value.specs.types.Moment.{clock_text}
use Rattle.value.specs.declared.judged.Judged.{Judged}
use Rattle.value.specs.declared.judged.Day as D
use Rattle.value.specs.declared.judged.Judged.TheVariants.{Moment}
use Rattle.value.specs.Places.{written_clock}

-- r is the number whose two digits l begins with; none where it begins with none
pub record Two (l : List ℕ) (r : Option ℕ) : Type 0 where
  pub sound : (n : ℕ) → r ≡ Some n → (n ≤ 99) × (l ≡ pair n (drop 2 l))
  pub complete : (n : ℕ) (u : List ℕ) → n ≤ 99 → l ≡ pair n u → r ≡ Some n

-- the same of one digit
pub record One (l : List ℕ) (r : Option ℕ) : Type 0 where
  pub sound : (n : ℕ) → r ≡ Some n → (n ≤ 9) × (l ≡ (code "0" + n) ∷ drop 1 l)
  pub complete : (n : ℕ) (u : List ℕ) → n ≤ 9 → l ≡ (code "0" + n) ∷ u → r ≡ Some n

-- whether l begins with b
pub record Mark (l : List ℕ) (b : ℕ) (r : Bool) : Type 0 where
  pub sound : r ≡ true → l ≡ b ∷ drop 1 l
  pub complete : (u : List ℕ) → l ≡ b ∷ u → r ≡ true

-- the day that t begins with
pub data DayAt (t : List ℕ) (r : Option D.Day) : Type 0 where
  on : (y m d : ℕ) → Real y m d → t ≡ day_text y m d (drop written_clock t) → r ≡ Some (record { year = y; month = m; day = d }) → DayAt t r
  off : r ≡ None → ((y m d : ℕ) (u : List ℕ) → Real y m d → t ≡ day_text y m d u → ⊥) → DayAt t r

-- the fraction that l begins with, u microseconds, and what stands after it; before a zone there is no other
pub record FractionAt (l : List ℕ) (u : ℕ) (rest : List ℕ) : Type 0 where
  pub fraction : Fraction
  pub good : FractionOk present fraction
  pub is : l ≡ fraction_text fraction rest
  pub count : u ≡ micros fraction
  pub only : (f : Fraction) (z : Zone) → FractionOk present f → l ≡ fraction_text f (zone_text z []) → rest ≡ zone_text z []

-- a mirror: a where the last digit of a fraction is not zero, else b
abbrev pub by_last : ℕ → ℕ → ℕ → ℕ
by_last k a b = cond (eqb k 0) b a

-- the day after a day, where there is one
pub data NextAt (y m d : ℕ) (r : Option D.Day) : Type 0 where
  on : (y' m' d' : ℕ) → next_day y m d ≡ (y', m', d') → Real y' m' d' → r ≡ Some (record { year = y'; month = m'; day = d' }) → NextAt y m d r
  off : r ≡ None → ((y' m' d' : ℕ) → next_day y m d ≡ (y', m', d') → Real y' m' d' → ⊥) → NextAt y m d r

-- the zone that l is: offset minutes plus 840; none where it is none
pub data ZoneAt (l : List ℕ) (r : Option ℕ) : Type 0 where
  on : (z : Zone) → ZoneOk z → l ≡ zone_text z [] → r ≡ Some (offset z) → ZoneAt l r
  off : r ≡ None → ((z : Zone) → ZoneOk z → l ≡ zone_text z [] → ⊥) → ZoneAt l r

-- the parts of a moment after the ten characters of its day, u microseconds, offset minutes plus 840
pub record ClockText (l : List ℕ) (h mi s u z : ℕ) : Type 0 where
  pub clock : Clock h mi s
  pub fraction : Fraction
  pub zone : Zone
  pub good : FractionOk present fraction × ZoneOk zone
  pub is : l ≡ code "T" ∷ clock_text h mi s (fraction_text fraction (zone_text zone []))
  pub parts : (u ≡ micros fraction) × (z ≡ offset zone)

pub data ClockAt (t : List ℕ) (y m d : ℕ) (r : Option Judged) : Type 0 where
  on : (h mi s u z : ℕ) → ClockText (drop written_clock t) h mi s u z → r ≡ Some (Moment (record { year = y; month = m; day = d; hour = h; minute = mi; second = s; micros = u; offset = z })) → ClockAt t y m d r
  off : r ≡ None → ((h mi s u z : ℕ) → ClockText (drop written_clock t) h mi s u z → ⊥) → ClockAt t y m d r

-- the moment of 24:00:00 on a day, where l stands after the seconds
pub data MidnightAt (l : List ℕ) (y m d : ℕ) (r : Option Judged) : Type 0 where
  on : (y' m' d' : ℕ) (z : Zone) → next_day y m d ≡ (y', m', d') → Real y' m' d' → ZoneOk z → l ≡ zone_text z []
      → r ≡ Some (Moment (record { year = y'; month = m'; day = d'; hour = 0; minute = 0; second = 0; micros = 0; offset = offset z })) → MidnightAt l y m d r
  off : r ≡ None → ((y' m' d' : ℕ) (z : Zone) → next_day y m d ≡ (y', m', d') → Real y' m' d' → ZoneOk z → l ≡ zone_text z [] → ⊥) → MidnightAt l y m d r
