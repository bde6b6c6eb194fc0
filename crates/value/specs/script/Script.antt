-- The text that is written for a value: of all that spell it, this one. Assumes nothing.
use Rattle.std.specs.Prelude.{cond, List, [], ◌∷◌, ◌++◌, ℕ, ◌-◌, ◌/◌, ◌%◌, ◌^◌, eqb, ltb, get_or}
use Prim.Native.Char.{code}
use Rattle.text.specs.Bytes.{ascii}
use Rattle.text.specs.Digits.{in_digits, padded, pointed}
use Rattle.list.specs.Listing.{Leaf}
use Rattle.value.specs.types.Code.{words_of}
use Rattle.value.specs.types.Day.{day_text}
use Rattle.value.specs.types.Moment.{hours_text, clock_text}
use Rattle.value.specs.Value.{Value, text, place, truth, natural, amount, day, moment}

-- "The writer of §1 writes the shortest fraction": of so many microseconds. What is finer than thousandths has a text by the former rule alone, its six digits
unfoldable pub fraction_for : ℕ → List ℕ
fraction_for u =
    cond (eqb u 0) [] (code "." ∷ cond (eqb (u % 10 ^ (6 - 1)) 0) (padded 1 (u / 10 ^ (6 - 1))) (cond (eqb (u % 10 ^ (6 - 2)) 0) (padded 2 (u / 10 ^ (6 - 2))) (cond (eqb (u % 10 ^ (6 - 3)) 0) (padded 3 (u / 10 ^ (6 - 3))) (padded 6 u))))

-- "offset zero as `Z`"
abbrev pub zone_for : ℕ → List ℕ
zone_for z = cond (eqb z 840) (ascii "Z") (cond (ltb z 840) (code "-" ∷ hours_text (840 - z)) (code "+" ∷ hours_text (z - 840)))

-- "BOOL as `true` or `false`"; "amounts with their smallest scale and digits written most significant first (as `0.5` and `7`)"
abbrev pub script_of : Leaf → Value → List ℕ
script_of f (text cs) = cs
script_of f (place n) = get_or (words_of f) (n - 1) []
script_of f (truth b) = cond b (ascii "true") (ascii "false")
script_of f (natural n) = in_digits n
script_of f (amount w k c) = pointed k c
script_of f (day y m d) = day_text y m d []
script_of f (moment y mo d h mi s u z) = day_text y mo d (code "T" ∷ clock_text h mi s (fraction_for u ++ zone_for z))

-- the currency that a value has, which an amount alone does
abbrev pub currency_of : Value → List ℕ
currency_of (text cs) = []
currency_of (place n) = []
currency_of (truth b) = []
currency_of (natural n) = []
currency_of (amount w k c) = w
currency_of (day y m d) = []
currency_of (moment y mo d h mi s u z) = []
