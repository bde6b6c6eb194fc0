-- The two rules of a date-time: what each spells, and both together. Assumes nothing.
use mathlib.Core.Path.{◌≡◌, refl, sym, ◌∙◌, ap}
use mathlib.Core.List.{List, [], ◌∷◌}
use mathlib.Core.Logic.{◌↔◌, inr}
use Prim.Native.Nat.{ℕ, ◌+◌, ◌-◌, ◌/◌, ◌%◌, ◌≤◌, ◌<◌}
use native.Mathlib.Omega.{arith}
use native.Mathlib.Decide.{dec_lt}
use Rattle.list.specs.Listing.{Leaf, ref, iban, ccy, bool, num, amt, date, dtm, txt, enum}
use Rattle.value.specs.types.Day.{Real, day_text, next_day}
use Rattle.value.specs.parts.Former.{DateRule, former, present, no_fraction, decimals, fraction_text, Zone, ahead, behind, ZoneOk, zone_text, offset, ordinary, midnight}
use Rattle.value.specs.types.Moment.{clock_text, Parts}
use Rattle.value.specs.Value.{Value, moment, IsValue, Spelt}
use Rattle.value.specs.parts.Form.{Form}
use Rattle.value.specs.Rules.{FormBy, SpeltBy, InThousandths}
use Rattle.value.proofs.dates.Dates.{few, moment_parts}
use Rattle.value.proofs.dates.Spell.{read_day}
use Rattle.value.proofs.types.Shaped.{form_is, shaped_spelt, spelt_shaped}

-- ---- one value, two texts
-- "24:00:00 .. its content is 00:00:00 of the next day": the value of each of the two texts, and of no other kind
module _ (y m d y' m' d' : ℕ) (r : Real y m d) (r' : Real y' m' d') (e : next_day y m d ≡ (y', m', d')) (w : List ℕ) (z : Zone) (ok : ZoneOk z) where
  pub midnight_is : Form dtm w (day_text y m d (84 ∷ clock_text 24 0 0 (zone_text z []))) (moment y' m' d' 0 0 0 0 (offset z))
      × Form dtm w (day_text y' m' d' (84 ∷ clock_text 0 0 0 (zone_text z []))) (moment y' m' d' 0 0 0 0 (offset z))
  midnight_is = (
    Form.timed (midnight refl (record { year = y; month = m; date = d; day = r; next = e; real = r'; zone = z; good = ok; is = refl; clock = (refl, refl, refl); parts = (refl, refl) })),
    Form.timed {h = 0} {mi = 0} {s = 0} (ordinary (record { day = r'; clock = (omega arith, omega arith, omega arith); fraction = no_fraction; zone = z; good = (tt, ok); is = refl; parts = (refl, refl) })),
  )

-- "on 9999-12-31 it is refused"
pub last_day : (w : List ℕ) (z : Zone) (v : Value) → Form dtm w (day_text 9999 12 31 (84 ∷ clock_text 24 0 0 (zone_text z []))) v → ⊥
last_day w z v (Form.timed {h = h} (ordinary m)) =
    let e = m.is in
    let b : 50 ≡ 48 + h / 10 = cc in
    let c : 52 ≡ 48 + h % 10 = cc in
    omega (arith, m.clock.0)
last_day w z v (Form.timed {y} {mo} {d} (midnight i m)) =
    let t = day_text 9999 12 31 (84 ∷ clock_text 24 0 0 (zone_text z [])) in
    let o = read_day t m.year m.month m.date _ m.is in
    let a : m.year ≡ 9999 = sym o.years in
    let b : m.month ≡ 12 = sym o.months in
    let c : m.date ≡ 31 = sym o.days in
    let n : next_day 9999 12 31 ≡ (y, mo, d) = sym (ap (λ (k : ℕ). next_day k m.month m.date) a ∙ ap (λ (k : ℕ). next_day 9999 k m.date) b ∙ ap (next_day 9999 12) c) ∙ m.next in
    let k : 10000 ≡ y = ap (λ (p : ℕ × ℕ × ℕ). p.0) n in
    omega (arith, m.real.year.1)

-- ---- the present rule is the one that `Spelt` has

form_by : (k : Leaf) (w t : List ℕ) (v : Value) → Form k w t v → FormBy present k w t v
form_by ref w t v f = FormBy.other tt f
form_by iban w t v f = FormBy.other tt f
form_by ccy w t v f = FormBy.other tt f
form_by bool w t v f = FormBy.other tt f
form_by num w t v f = FormBy.other tt f
form_by amt w t v f = FormBy.other tt f
form_by date w t v f = FormBy.other tt f
form_by dtm w t v (Form.timed m) = FormBy.timed m
form_by (txt n) w t v f = FormBy.other tt f
form_by (enum ws) w t v f = FormBy.other tt f

form_back : (k : Leaf) (w t : List ℕ) (v : Value) → FormBy present k w t v → Form k w t v
form_back k w t v (FormBy.timed m) = Form.timed m
form_back k w t v (FormBy.other o f) = f

pub by_present : (k : Leaf) (w cs : List ℕ) (v : Value) → SpeltBy present k w cs v ↔ Spelt k w cs v
by_present k w cs v = (
  (λ a. shaped_spelt k w cs v (record { left = a.left; lost = a.lost; form = form_back k w a.left v a.form })),
  (λ s. let a = spelt_shaped k w cs v s in record { left = a.left; lost = a.lost; form = form_by k w a.left v a.form }),
)

-- ---- how fine

form_fine : (k : Leaf) (w t : List ℕ) (v : Value) → Form k w t v → InThousandths v
form_fine k w t v (Form.reference r) = tt
form_fine k w t v (Form.writing r) = tt
form_fine k w t v (Form.account r) = tt
form_fine k w t v (Form.currency r) = tt
form_fine k w t v (Form.listed r) = tt
form_fine k w t v (Form.either r) = tt
form_fine k w t v (Form.count r) = tt
form_fine k w t v (Form.money r b) = tt
form_fine k w t v (Form.dated r e) = tt
form_fine k w t v (Form.timed (ordinary m)) = omega (arith, m.parts.0, (few m.fraction m.good.0).1)
form_fine k w t v (Form.timed (midnight e m)) = omega (arith, m.parts.0)

-- "a point and one to three digits": what a file says is no finer
pub spelt_fine : (k : Leaf) (w cs : List ℕ) (v : Value) → Spelt k w cs v → InThousandths v
spelt_fine k w cs v s = let a = spelt_shaped k w cs v s in form_fine k w a.left v a.form

-- ---- the former rule

-- an offset, written
zone_of_lem : (z : ℕ) → z ≤ 1680 → (x : Zone) × ZoneOk x × (z ≡ offset x)
zone_of_lem z h = go (dec_lt z 840)
  where
    go : Dec (z < 840) → (x : Zone) × ZoneOk x × (z ≡ offset x)
    go (yes l) = (behind ((840 - z) / 60) ((840 - z) % 60), record { minutes = omega arith; most = omega arith }, omega arith)
    go (no l) = (ahead ((z - 840) / 60) ((z - 840) % 60), record { minutes = omega arith; most = omega arith }, omega arith)

-- six digits write each number of microseconds
pub parts_former : {y mo d h mi s u z : ℕ} (w : List ℕ) → Parts y mo d h mi s u z → (t : List ℕ) × FormBy former dtm w t (moment y mo d h mi s u z)
parts_former {y} {mo} {d} {h} {mi} {s} {u} {z} w p =
    let x = zone_of_lem z p.zone in (
      day_text y mo d (84 ∷ clock_text h mi s (fraction_text (decimals 6 u) (zone_text x.0 []))),
      FormBy.timed {u = u} (ordinary (record { day = p.day; clock = p.clock; fraction = decimals 6 u; zone = x.0; good = ((inr refl, omega (arith, p.fraction)), x.1); is = refl; parts = (omega arith, x.2) })),
    )

-- whichever rule it is, what is spelt is a value of the type
by_form : (rule : DateRule) (k : Leaf) (w t : List ℕ) (v : Value) → FormBy rule k w t v → IsValue k v
by_form rule k w t v (FormBy.timed m) = IsValue.timed (moment_parts m)
by_form rule k w t v (FormBy.other o f) = form_is k w t v f

pub by_is : (rule : DateRule) (k : Leaf) (w cs : List ℕ) (v : Value) → SpeltBy rule k w cs v → IsValue k v
by_is rule k w cs v a = by_form rule k w a.left v a.form
