-- What is spelt is a value in one of its wordings (`Spelt`); the proofs go by the forms of what is left without blanks (`Shaped`): the same.
-- Assumes nothing.
use mathlib.Core.Path.{◌≡◌, refl, sym, ◌∙◌, ap, subst}
use mathlib.Core.List.{List, []}
use Prim.Native.Nat.{ℕ, ◌-◌, ◌^◌, ◌<◌}
use native.Mathlib.Nat.{pow-le-pow_right}
use native.Mathlib.Omega.{arith}
use lib.ListN.{get_or}
use Rattle.list.specs.Listing.{Leaf, amt, enum}
use Rattle.value.specs.types.Plain.{Num}
use Rattle.value.specs.Value.{Value, place, amount, IsValue, Wording, Spelt}
use Rattle.value.specs.parts.Form.{WordAt, Form, Left, Shaped}
use Rattle.value.proofs.numbers.Decimals.{decimal_below}
use Rattle.value.proofs.numbers.Numerals.{price_of, amount_of}
use Rattle.value.proofs.dates.Dates.{moment_parts}
use Rattle.value.proofs.dates.Texts.{moment_by, moment_text}

word_is : (ws : List (List ℕ)) (n : ℕ) (w : List ℕ) → WordAt ws n w → IsValue (enum ws) (place n)
word_is ws n w a = IsValue.listed {ws = ws} {n = n} (omega (arith, a.from)) (omega (arith, a.from, a.within))

num_below : (t : List ℕ) (n : ℕ) → Num t n → n < 10 ^ 18
num_below t n w = omega (arith, decimal_below 0 1 t w.digits (omega arith), w.is, pow-le-pow_right {n = 10} (omega arith) w.lengths.1)

pub form_is : (k : Leaf) (w t : List ℕ) (v : Value) → Form k w t v → IsValue k v
form_is k w t v (Form.reference r) = IsValue.reference r
form_is k w t v (Form.writing r) = IsValue.writing r
form_is k w t v (Form.account r) = IsValue.account r
form_is k w t v (Form.currency r) = IsValue.currency r
form_is k w t v (Form.listed a) = word_is _ _ t a
form_is k w t v (Form.either s) = IsValue.either
form_is k w t v (Form.count n) = IsValue.count (num_below t _ n)
form_is k w t v (Form.money c a) = IsValue.money c a.bounds
form_is k w t v (Form.dated r e) = IsValue.dated r
form_is k w t v (Form.timed m) = IsValue.timed (moment_parts m)

worded : (k : Leaf) (w cs t : List ℕ) (v : Value) → Left k cs t → Form k w t v → Wording k w cs v
worded k w cs t v l (Form.reference r) = l
worded k w cs t v l (Form.writing r) = l
worded k w cs t v l (Form.account r) = l
worded k w cs t v l (Form.currency r) = l
worded k w cs t v l (Form.listed {ws = ws} {n = n} a) = let i : a.before ≡ n - 1 = omega (arith, a.from) in l ∙ sym a.is ∙ ap (λ (j : ℕ). get_or ws j []) i
worded k w cs t v l (Form.either s) = (t, l, s)
worded k w cs t v l (Form.count m) = (t, l, m)
worded k w cs t v l (Form.money {k = j} {c = c} r a) = (refl, t, l, amount_of t c j a)
worded k w cs t v l (Form.dated r e) = (t, l, e)
worded k w cs t v l (Form.timed {y = y} {mo = mo} {d = d} {h = h} {mi = mi} {s = s} {u = u} {z = z} m) = (t, l, moment_text t y mo d h mi s u z m)

pub shaped_spelt : (k : Leaf) (w cs : List ℕ) (v : Value) → Shaped k w cs v → Spelt k w cs v
shaped_spelt k w cs v a = record { is = form_is k w a.left v a.form; wording = worded k w cs a.left v a.lost a.form }

shaped : (k : Leaf) (w cs : List ℕ) (v : Value) → IsValue k v → Wording k w cs v → Shaped k w cs v
shaped k w cs v (IsValue.reference {cs = t} r) e = record { left = t; lost = e; form = Form.reference r }
shaped k w cs v (IsValue.writing {cs = t} r) e = record { left = t; lost = e; form = Form.writing r }
shaped k w cs v (IsValue.account {cs = t} r) e = record { left = t; lost = e; form = Form.account r }
shaped k w cs v (IsValue.currency {cs = t} r) e = record { left = t; lost = e; form = Form.currency r }
shaped k w cs v (IsValue.listed {ws = ws} {n = n} a b) e = record { left = cs; lost = refl; form = Form.listed {ws = ws} {n = n} (record { before = n - 1; from = omega arith; within = omega arith; is = sym e }) }
shaped k w cs v IsValue.either e = record { left = e.0; lost = e.1; form = Form.either e.2 }
shaped k w cs v (IsValue.count h) e = record { left = e.0; lost = e.1; form = Form.count e.2 }
shaped k w cs v (IsValue.money {w = u} {k = j} {c = c} r b) e = record { left = e.1; lost = e.2; form = subst (λ (x : List ℕ). Form amt x e.1 (amount u j c)) (sym e.0) (Form.money r (price_of e.1 c j e.3 b)) }
shaped k w cs v (IsValue.dated r) e = record { left = e.0; lost = e.1; form = Form.dated r e.2 }
shaped k w cs v (IsValue.timed {y = y} {mo = mo} {d = d} {h = h} {mi = mi} {s = s} {u = u} {z = z} p) e = record { left = e.0; lost = e.1; form = Form.timed (moment_by e.0 y mo d h mi s u z p e.2) }

pub spelt_shaped : (k : Leaf) (w cs : List ℕ) (v : Value) → Spelt k w cs v → Shaped k w cs v
spelt_shaped k w cs v s = shaped k w cs v s.is s.wording
