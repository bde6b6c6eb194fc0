-- What a text spells by the former and by the present date-time rule: of the ten types DTM alone has two rules. Assumes nothing.
use Rattle.std.specs.Prelude.{◌≡◌, List, ℕ, ◌%◌, ◌^◌}
use Rattle.list.specs.Listing.{Leaf, ref, iban, ccy, bool, num, amt, date, dtm, txt, enum}
use Rattle.value.specs.parts.Former.{DateRule, MomentBy}
use Rattle.value.specs.Value.{Value, text, place, truth, natural, amount, day, moment}
use Rattle.value.specs.parts.Form.{Form, Left}

-- the types with one rule
abbrev pub Timeless : Leaf → Type 0
Timeless ref = Unit {0}
Timeless iban = Unit {0}
Timeless ccy = Unit {0}
Timeless bool = Unit {0}
Timeless num = Unit {0}
Timeless amt = Unit {0}
Timeless date = Unit {0}
Timeless dtm = ⊥
Timeless (txt k) = Unit {0}
Timeless (enum ws) = Unit {0}

-- what is left of the characters spells v by the rule
pub data FormBy (rule : DateRule) : Leaf → List ℕ → List ℕ → Value → Type 0 where
  timed : {y mo d h mi s u z : ℕ} {w cs : List ℕ} → MomentBy rule cs y mo d h mi s u z → FormBy rule dtm w cs (moment y mo d h mi s u z)
  other : {k : Leaf} {w cs : List ℕ} {v : Value} → Timeless k → Form k w cs v → FormBy rule k w cs v

-- the characters cs spell v by the rule; `SpeltBy present` is `Spelt` (proofs/Rules, `by_present`)
pub record SpeltBy (rule : DateRule) (k : Leaf) (w cs : List ℕ) (v : Value) : Type 0 where
  pub left : List ℕ
  pub lost : Left k cs left
  pub form : FormBy rule k w left v

-- the value has no part of a second below a thousandth: the present rule has no digit for one
abbrev pub InThousandths : Value → Type 0
InThousandths (text cs) = Unit {0}
InThousandths (place n) = Unit {0}
InThousandths (truth b) = Unit {0}
InThousandths (natural n) = Unit {0}
InThousandths (amount w k c) = Unit {0}
InThousandths (day y m d) = Unit {0}
InThousandths (moment y mo d h mi s u z) = u % 10 ^ 3 ≡ 0
