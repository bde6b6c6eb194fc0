-- A decision: which value the characters of a leaf spell, computed; `Spelt` says what is right, and proofs/Spell that this is it. Assumes nothing.
use Rattle.std.specs.Prelude.{Bool, true, false, cond, ◌&&◌, ◌||◌, not, List, [], ◌∷◌, ℕ, zero, suc, ◌+◌, ◌*◌, ◌-◌, ◌%◌, ◌^◌, leb, ltb, eqb, length, drop, get_or, Some, None}
use Rattle.std.specs.Prelude as std
use Rattle.std.proofs.Math.Option.{Option, some, none}
use Prim.Native.Char.{code}
use Rattle.text.specs.Bytes.{ascii, in_range, is_blank, is_capital, is_digit}
use Rattle.text.specs.Lists.{same}
use Rattle.list.specs.Listing.{Leaf, ref, iban, ccy, bool, num, amt, date, dtm, txt, enum}
pub use Rattle.list.specs.tables.Table.{place_from, place_in}
use Rattle.value.specs.parts.Numeral.{decimal}
use Rattle.value.specs.types.Day.{is_real, day_text, next_day}
use Rattle.value.specs.types.Moment.{clock_text}
use Rattle.value.specs.parts.Former.{Fraction, no_fraction, decimals, figures, fraction_text, micros, Zone, zulu, ahead, behind, zone_text, offset}
use Rattle.value.specs.mirror.Texts.{text_of}
use Rattle.value.specs.mirror.Layout.{iban_at}
use Rattle.value.specs.mirror.Reading.{read_of, answer}
use Rattle.value.specs.Value.{Value, text, place, truth, natural, amount, day, moment}
use Rattle.value.specs.declared.judged.Judged.{Judged}
use Rattle.value.specs.declared.judged.Judged.TheVariants.{Text, Truth, Natural, Amount, Day, Moment}
use Rattle.value.specs.Places.{written_month, written_day, written_hour, written_minute, written_second, written_fraction, zone_minutes}

-- ---- blanks at both ends

unfoldable pub front_off : List ℕ → List ℕ
front_off [] = []
front_off (x ∷ xs) = cond (is_blank x) (front_off xs) (x ∷ xs)

-- x before what is left after it; a blank that nothing is left after goes too
abbrev pub before : ℕ → List ℕ → List ℕ
before x [] = cond (is_blank x) [] (x ∷ [])
before x (y ∷ ys) = x ∷ y ∷ ys

unfoldable pub back_off : List ℕ → List ℕ
back_off [] = []
back_off (x ∷ xs) = before x (back_off xs)

abbrev pub trim : List ℕ → List ℕ
trim cs = back_off (front_off cs)

-- ---- tests

-- the value, where the test is passed
abbrev pub when : Bool → Value → Option Value
when b v = cond b (some v) none

-- every one passes the test of its place, the first at place i
unfoldable pub passes_from : (ℕ → ℕ → Bool) → ℕ → List ℕ → Bool
passes_from p i [] = true
passes_from p i (x ∷ xs) = p i x && passes_from p (suc i) xs

abbrev pub is_ccy : List ℕ → Bool
is_ccy t = eqb (length t) 3 && passes_from (λ _ x. is_capital x) 0 t

abbrev pub is_iban : List ℕ → Bool
is_iban t = in_range (2 + 2 + 1) (2 + 2 + 30) (length t) && passes_from iban_at 0 t

abbrev pub is_num : List ℕ → Bool
is_num t = in_range 1 18 (length t) && passes_from (λ _ x. is_digit x) 0 t

-- ---- words

-- a place in a list of words counts from 1
abbrev pub place_of : ℕ → Option Value
place_of zero = none
place_of (suc n) = some (place (suc n))

abbrev pub truth_of : List ℕ → Option Value
truth_of t = cond (same t (ascii "true") || same t (ascii "1")) (some (truth true)) (when (same t (ascii "false") || same t (ascii "0")) (truth false))

-- ---- amounts

abbrev pub money_of : List ℕ → std.Option Judged → Option Value
money_of w None = none
money_of w (Some (Text n)) = none
money_of w (Some (Truth b)) = none
money_of w (Some (Natural n)) = none
money_of w (Some (Amount c k)) = some (amount w k c)
money_of w (Some (Day d)) = none
money_of w (Some (Moment m)) = none

-- ---- days and moments: the digits as they stand, and whether what they say is written so

abbrev pub two_at : ℕ → List ℕ → ℕ
two_at i t = (get_or t i 0 - code "0") * 10 + (get_or t (i + 1) 0 - code "0")

abbrev pub three_at : ℕ → List ℕ → ℕ
three_at i t = (get_or t i 0 - code "0") * 100 + two_at (i + 1) t

abbrev pub day_when : List ℕ → ℕ → ℕ → ℕ → Option Value
day_when t y m d = when (is_real y m d && same t (day_text y m d [])) (day y m d)

unfoldable pub day_of : List ℕ → Option Value
unfolding is_real
day_of t = day_when t (two_at 0 t * 100 + two_at 2 t) (two_at written_month t) (two_at written_day t)

abbrev pub is_clock : ℕ → ℕ → ℕ → Bool
is_clock h m s = leb h 23 && (leb m 59 && leb s 59)

-- a point, and one to three digits
unfoldable pub fraction_of : List ℕ → Fraction
fraction_of l =
    cond (eqb (get_or l 0 0) (code "."))
    (cond (is_digit (get_or l 2 0)) (cond (is_digit (get_or l 3 0)) (decimals 3 (three_at 1 l)) (decimals 2 (two_at 1 l))) (decimals 1 (get_or l 1 0 - code "0")))
    no_fraction

abbrev pub fraction_length : Fraction → ℕ
fraction_length no_fraction = 0
fraction_length (decimals k n) = 1 + k

abbrev pub is_fraction : Fraction → Bool
is_fraction no_fraction = true
is_fraction (decimals k n) = in_range 1 3 k && (ltb n (10 ^ k) && not (eqb (n % 10) 0))

unfoldable pub zone_of : List ℕ → Zone
zone_of l = cond (eqb (get_or l 0 0) (code "+")) (ahead (two_at 1 l) (two_at zone_minutes l)) (cond (eqb (get_or l 0 0) (code "-")) (behind (two_at 1 l) (two_at zone_minutes l)) zulu)

abbrev pub is_offset : ℕ → ℕ → Bool
is_offset h m = leb m 59 && leb (h * 60 + m) 840

abbrev pub is_zone : Zone → Bool
is_zone zulu = true
is_zone (ahead h m) = is_offset h m
is_zone (behind h m) = is_offset h m

abbrev pub moment_when : List ℕ → ℕ → ℕ → ℕ → ℕ → ℕ → ℕ → Fraction → Zone → Option Value
moment_when t y mo d h mi s f z =
    when (is_real y mo d && (is_clock h mi s && (is_fraction f && (is_zone z && same t (day_text y mo d (code "T" ∷ clock_text h mi s (fraction_text f (zone_text z []))))))))
    (moment y mo d h mi s (micros f) (offset z))

-- l is what stands after the seconds
abbrev pub moment_behind : List ℕ → List ℕ → Option Value
moment_behind t l =
    moment_when t (two_at 0 t * 100 + two_at 2 t) (two_at written_month t) (two_at written_day t) (two_at written_hour t) (two_at written_minute t) (two_at written_second t) (fraction_of l) (zone_of (drop (fraction_length (fraction_of l)) l))

-- 24:00:00 on a day, 00:00:00 on the next
abbrev pub midnight_when : List ℕ → ℕ → ℕ → ℕ → Zone → ℕ × ℕ × ℕ → Option Value
midnight_when t y mo d z n =
    when (is_real y mo d && (is_real n.0 n.1 n.2 && (is_zone z && same t (day_text y mo d (code "T" ∷ clock_text 24 0 0 (zone_text z []))))))
    (moment n.0 n.1 n.2 0 0 0 0 (offset z))

abbrev pub midnight_on : List ℕ → ℕ → ℕ → ℕ → Zone → Option Value
midnight_on t y mo d z = midnight_when t y mo d z (next_day y mo d)

abbrev pub midnight_behind : List ℕ → List ℕ → Option Value
midnight_behind t l = midnight_on t (two_at 0 t * 100 + two_at 2 t) (two_at written_month t) (two_at written_day t) (zone_of l)

-- the hour chooses
unfoldable pub moment_of : List ℕ → Option Value
unfolding is_real figures
moment_of t = cond (eqb (two_at written_hour t) 24) (midnight_behind t (drop written_fraction t)) (moment_behind t (drop written_fraction t))

-- ---- all kinds

-- "NUM, AMT, BOOL, DATE and DTM first lose blanks at both ends"
abbrev pub left_of : Leaf → List ℕ → List ℕ
left_of ref cs = cs
left_of iban cs = cs
left_of ccy cs = cs
left_of bool cs = trim cs
left_of num cs = trim cs
left_of amt cs = trim cs
left_of date cs = trim cs
left_of dtm cs = trim cs
left_of (txt k) cs = cs
left_of (enum ws) cs = cs

-- the value that t spells, which lost its blanks; w are the characters of the attribute Ccy
abbrev pub form_of : Leaf → List ℕ → List ℕ → Option Value
form_of ref w t = when (text_of true 35 t) (text t)
form_of iban w t = when (is_iban t) (text t)
form_of ccy w t = when (is_ccy t) (text t)
form_of bool w t = truth_of t
form_of num w t = when (is_num t) (natural (decimal t))
form_of amt w t = cond (is_ccy w) (money_of w (answer (read_of t))) none
form_of date w t = day_of t
form_of dtm w t = moment_of t
form_of (txt k) w t = when (text_of false k t) (text t)
form_of (enum ws) w t = place_of (place_in ws t)

unfoldable pub spell : Leaf → List ℕ → List ℕ → Option Value
spell k w cs = form_of k w (left_of k cs)
