-- A mirror: what is written for the value that bytes begin with, whatever the bytes are. For those of a value it is the value's text
-- (proofs/Meaning). Assumes nothing.
use Rattle.std.specs.Prelude.{Bool, cond, not, List, [], ◌∷◌, ◌++◌, ℕ, ◌-◌, ◌/◌, ◌%◌, ◌^◌, eqb, ltb, get_or, take, drop}
use Prim.Native.Char.{code}
use Rattle.text.specs.Bytes.{ascii}
use Rattle.text.specs.Numbers.{number}
use Rattle.text.specs.Digits.{in_digits, padded, pointed}
use Rattle.list.specs.tables.Columns.{KIND}
use Rattle.list.specs.tables.Table.{cell, words_in}
use Rattle.value.specs.parts.Former.{Fraction, no_fraction, decimals, Zone, zulu, ahead, behind}
use Rattle.value.specs.script.Raw.{escaped}
use Rattle.value.specs.Places.{number_size, stored_scale, stored_coefficient, stored_month, stored_day, stored_hour, stored_minute, stored_second, stored_micros, stored_offset}

-- a text, as long as its two first bytes say
unfoldable pub text_raw : List ℕ → List ℕ
text_raw b = escaped (take (number (take 2 b)) (drop 2 b))

-- the word at a place from 1
unfoldable pub word_raw : List (List ℕ) → List ℕ → List ℕ
word_raw ws b = cond (eqb (get_or b 0 0) 0) [] (get_or ws (get_or b 0 0 - 1) [])

-- three numbers with a sign between each two, the first in w digits, the others in two
unfoldable pub three_raw : ℕ → ℕ → List ℕ → ℕ → ℕ → List ℕ
three_raw w a sign b c = padded w a ++ (sign ++ (padded 2 b ++ (sign ++ padded 2 c)))

-- the parts that are written: the shortest fraction of so many microseconds, the zone of an offset
unfoldable pub fraction_of : ℕ → Fraction
fraction_of u =
    cond (eqb u 0) no_fraction (cond (eqb (u % 10 ^ (6 - 1)) 0) (decimals 1 (u / 10 ^ (6 - 1))) (cond (eqb (u % 10 ^ (6 - 2)) 0) (decimals 2 (u / 10 ^ (6 - 2))) (cond (eqb (u % 10 ^ (6 - 3)) 0) (decimals 3 (u / 10 ^ (6 - 3))) (decimals 6 u))))

abbrev pub zone_of : ℕ → Zone
zone_of z = cond (eqb z 840) zulu (cond (ltb z 840) (behind ((840 - z) / 60) ((840 - z) % 60)) (ahead ((z - 840) / 60) ((z - 840) % 60)))

abbrev pub places_raw : Fraction → List ℕ
places_raw no_fraction = []
places_raw (decimals k n) = code "." ∷ padded k n

unfoldable pub fraction_raw : ℕ → List ℕ
fraction_raw u = places_raw (fraction_of u)

-- a sign and `hh:mm`
unfoldable pub offset_raw : List ℕ → ℕ → List ℕ
offset_raw sign m = sign ++ (padded 2 (m / 60) ++ (code ":" ∷ padded 2 (m % 60)))

unfoldable pub zone_raw : ℕ → List ℕ
zone_raw z = cond (eqb z 840) (ascii "Z") (cond (ltb z 840) (offset_raw (ascii "-") (840 - z)) (offset_raw (ascii "+") (z - 840)))

abbrev pub truth_text : Bool → List ℕ
truth_text b = cond b (ascii "true") (ascii "false")

-- `YYYY-MM-DD`, `hh:mm:ss`
unfoldable pub day_in : List ℕ → List ℕ
day_in b = three_raw 4 (number (take 2 b)) (ascii "-") (get_or b stored_month 0) (get_or b stored_day 0)

unfoldable pub clock_in : List ℕ → List ℕ
clock_in b = three_raw 2 (get_or b stored_hour 0) (ascii ":") (get_or b stored_minute 0) (get_or b stored_second 0)

unfoldable pub moment_in : List ℕ → List ℕ
moment_in b = day_in b ++ (code "T" ∷ (clock_in b ++ (fraction_raw (number (take 4 (drop stored_micros b))) ++ zone_raw (number (take 2 (drop stored_offset b))))))

-- the value that b begins with, written by the number of its kind (list's column KIND); ws are an ENUM's words
abbrev pub raws : List (List ℕ) → List ℕ → List (List ℕ)
raws ws b =
    [] ∷ [] ∷ text_raw b ∷ text_raw b ∷ text_raw b ∷ text_raw b ∷ word_raw ws b ∷ truth_text (not (eqb (get_or b 0 0) 0)) ∷
    in_digits (number (take number_size b)) ∷ pointed (get_or b stored_scale 0) (number (take number_size (drop stored_coefficient b))) ∷ day_in b ∷ moment_in b ∷ []

-- nothing where the number is none of a leaf's kind
unfoldable pub raw_text : ℕ → List (List ℕ) → List ℕ → List ℕ
raw_text c ws b = get_or (raws ws b) c []

-- what is written for the value of a leaf of row r that stands at place i of a run, in the tables of a list
abbrev pub raw_at : List ℕ → List ℕ → ℕ → List ℕ → ℕ → List ℕ
raw_at t pool r run i = raw_text (cell t r KIND) (words_in t pool r) (drop i run)
