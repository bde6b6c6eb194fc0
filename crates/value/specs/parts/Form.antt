-- The forms of a text that lost its blanks, a case for each type, as the proofs go by them. `Spelt` says the same (proofs/types/Shaped). Assumes nothing.
use Rattle.std.specs.Prelude.{◌≡◌, Bool, List, [], ℕ, suc, ◌<◌, length, get_or}
use Rattle.list.specs.Listing.{Leaf, ref, iban, ccy, bool, num, amt, date, dtm, txt, enum}
use Rattle.value.specs.types.Text.{is_txt, Chars, Ref}
use Rattle.value.specs.types.Code.{Iban, Ccy}
use Rattle.value.specs.types.Plain.{Trimmed, SaysTruth, Num}
use Rattle.value.specs.parts.Numeral.{Price}
use Rattle.value.specs.types.Day.{Real, day_text}
use Rattle.value.specs.parts.Former.{present, MomentBy}
use Rattle.value.specs.Value.{Value, text, place, truth, natural, amount, day, moment}

-- "ENUM: one listed word"; "place in its list from 1"
pub record WordAt (ws : List (List ℕ)) (n : ℕ) (w : List ℕ) : Type 0 where
  pub before : ℕ
  pub from : n ≡ suc before
  pub within : before < length ws
  pub is : get_or ws before [] ≡ w

-- which texts of a type spell which value, where w are the characters of the attribute Ccy, which AMT alone has
pub data Form : Leaf → List ℕ → List ℕ → Value → Type 0 where
  reference : {w cs : List ℕ} → Ref cs → Form ref w cs (text cs)
  writing : {k : ℕ} {w cs : List ℕ} → Chars is_txt k cs → Form (txt k) w cs (text cs)
  account : {w cs : List ℕ} → Iban cs → Form iban w cs (text cs)
  currency : {w cs : List ℕ} → Ccy cs → Form ccy w cs (text cs)
  listed : {ws : List (List ℕ)} {n : ℕ} {w cs : List ℕ} → WordAt ws n cs → Form (enum ws) w cs (place n)
  either : {b : Bool} {w cs : List ℕ} → SaysTruth cs b → Form bool w cs (truth b)
  count : {n : ℕ} {w cs : List ℕ} → Num cs n → Form num w cs (natural n)
  money : {w cs : List ℕ} {k c : ℕ} → Ccy w → Price cs c k → Form amt w cs (amount w k c)
  dated : {y m d : ℕ} {w cs : List ℕ} → Real y m d → cs ≡ day_text y m d [] → Form date w cs (day y m d)
  timed : {y mo d h mi s u z : ℕ} {w cs : List ℕ} → MomentBy present cs y mo d h mi s u z → Form dtm w cs (moment y mo d h mi s u z)

-- "NUM, AMT, BOOL, DATE and DTM first lose blanks at both ends"
abbrev pub Left : Leaf → List ℕ → List ℕ → Type 0
Left num cs t = Trimmed cs t
Left amt cs t = Trimmed cs t
Left bool cs t = Trimmed cs t
Left date cs t = Trimmed cs t
Left dtm cs t = Trimmed cs t
Left ref cs t = cs ≡ t
Left iban cs t = cs ≡ t
Left ccy cs t = cs ≡ t
Left (txt k) cs t = cs ≡ t
Left (enum ws) cs t = cs ≡ t

-- what is left of the characters cs has a form of v; w are the characters of the attribute Ccy
pub record Shaped (k : Leaf) (w cs : List ℕ) (v : Value) : Type 0 where
  pub left : List ℕ
  pub lost : Left k cs left
  pub form : Form k w left v
