-- Values: which there are, which texts spell which, and their bytes. Assumes nothing.
use Rattle.std.specs.Prelude.{◌≡◌, Bool, cond, List, [], ◌∷◌, ◌++◌, ℕ, ◌-◌, ◌≤◌, ◌<◌, ◌^◌, length, get_or}
use Rattle.text.specs.Numbers.{big_endian}
use Rattle.text_characters.specs.Utf8.{encode_all}
use Rattle.list.specs.Listing.{Leaf, ref, iban, ccy, bool, num, amt, date, dtm, txt, enum}
use Rattle.value.specs.types.Text.{is_txt, Chars, Ref}
use Rattle.value.specs.types.Code.{Iban, Ccy, words_of}
use Rattle.value.specs.types.Plain.{Trimmed, SaysTruth, Num}
use Rattle.value.specs.types.Amount.{Bounded, Amount}
use Rattle.value.specs.types.Day.{Real, day_text}
use Rattle.value.specs.types.Moment.{Parts, MomentText}

-- "texts by characters, the rest by value, an amount's currency being part of its value"; "DTM's value is its written parts"
pub data Value : Type 0 where
  text : (chars : List ℕ) → Value
  place : (n : ℕ) → Value
  truth : (b : Bool) → Value
  natural : (n : ℕ) → Value
  amount : (currency : List ℕ) (scale coefficient : ℕ) → Value
  day : (year month day : ℕ) → Value
  moment : (year month day hour minute second microseconds offset : ℕ) → Value

-- which values a type has
pub data IsValue : Leaf → Value → Type 0 where
  reference : {cs : List ℕ} → Ref cs → IsValue ref (text cs)
  writing : {k : ℕ} {cs : List ℕ} → Chars is_txt k cs → IsValue (txt k) (text cs)
  account : {cs : List ℕ} → Iban cs → IsValue iban (text cs)
  currency : {cs : List ℕ} → Ccy cs → IsValue ccy (text cs)
  listed : {ws : List (List ℕ)} {n : ℕ} → 1 ≤ n → n ≤ length ws → IsValue (enum ws) (place n)
  either : {b : Bool} → IsValue bool (truth b)
  count : {n : ℕ} → n < 10 ^ 18 → IsValue num (natural n)
  money : {w : List ℕ} {k c : ℕ} → Ccy w → Bounded c k → IsValue amt (amount w k c)
  dated : {y m d : ℕ} → Real y m d → IsValue date (day y m d)
  timed : {y mo d h mi s u z : ℕ} → Parts y mo d h mi s u z → IsValue dtm (moment y mo d h mi s u z)

-- the wordings of a value, w being the characters of the attribute Ccy; "NUM, AMT, BOOL, DATE and DTM first lose blanks at both ends";
-- "ENUM: one listed word", "place in its list from 1"
abbrev pub Wording : Leaf → List ℕ → List ℕ → Value → Type 0
Wording k w cs (text t) = cs ≡ t
Wording k w cs (place n) = cs ≡ get_or (words_of k) (n - 1) []
Wording k w cs (truth b) = (t : List ℕ) × Trimmed cs t × SaysTruth t b
Wording k w cs (natural n) = (t : List ℕ) × Trimmed cs t × Num t n
Wording k w cs (amount u e c) = (w ≡ u) × (t : List ℕ) × Trimmed cs t × Amount t c e
Wording k w cs (day y m d) = (t : List ℕ) × Trimmed cs t × (t ≡ day_text y m d [])
Wording k w cs (moment y mo d h mi s u z) = (t : List ℕ) × Trimmed cs t × MomentText t y mo d h mi s u z

-- the characters cs, "after entities are resolved", spell v
pub record Spelt (k : Leaf) (w cs : List ℕ) (v : Value) : Type 0 where
  pub is : IsValue k v
  pub wording : Wording k w cs v

-- "REF, TXT, IBAN, CCY: 16-bit byte length, UTF-8. ENUM: place in its list from 1. BOOL: 1 or 0. NUM: 64 bits. AMT: three currency letters,
-- scale byte, coefficient in 64 bits. DATE: 16-bit year, month, day. DTM: DATE, hour, minute, second, 32-bit microseconds, 16-bit offset
-- minutes plus 840."
abbrev pub bytes : Value → List ℕ
bytes (text cs) = big_endian 2 (length (encode_all cs)) ++ encode_all cs
bytes (place n) = n ∷ []
bytes (truth b) = cond b 1 0 ∷ []
bytes (natural n) = big_endian 8 n
bytes (amount w k c) = w ++ (k ∷ big_endian 8 c)
bytes (day y m d) = big_endian 2 y ++ (m ∷ d ∷ [])
bytes (moment y mo d h mi s u z) = big_endian 2 y ++ (mo ∷ d ∷ h ∷ mi ∷ s ∷ (big_endian 4 u ++ big_endian 2 z))
