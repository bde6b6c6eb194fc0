-- Texts that have no blank and that no entity stands in: all kinds but REF and TXTk. Assumes nothing.
use mathlib.Core.Path.{sym, subst}
use mathlib.Core.Bool.{Bool, true, false}
use mathlib.Core.List.{List, [], ◌∷◌}
use mathlib.Core.Logic.{⊎_elim}
use Prim.Native.Nat.{ℕ, zero, suc, ◌<◌, zero-le, suc-le-suc}
use native.Mathlib.Omega.{arith}
use lib.ListN.{length, get_or}
use Rattle.text.specs.Bytes.{is_capital}
use Rattle.text.specs.Lists.{Each, Begins}
use Rattle.list.specs.Listing.{Leaf, ref, iban, ccy, bool, num, amt, date, dtm, txt, enum}
use Rattle.value.specs.types.Code.{Iban, Ccy}
use Rattle.value.specs.types.Plain.{SaysTruth}
use Rattle.value.specs.Value.{Value}
use Rattle.value.specs.parts.Form.{Form}
use Rattle.value.proofs.classes.Codes.{iban_each}
use Rattle.value.proofs.classes.Classes.{Solid, solid_digit, solid_capital, solid_either, each_all}
use Rattle.value.proofs.raw.Trim.{Dense}
use Rattle.value.proofs.numbers.Decimals.{written_dense, digits_dense}
use Rattle.value.proofs.dates.Dates.{day_dense, moment_dense}

-- ---- a text of a kind that loses blanks has none
pub says_dense : (b : Bool) (t : List ℕ) → SaysTruth t b → Dense t
says_dense true t s = ⊎_elim (λ e. subst Dense (sym e) (record { solid = omega arith; some = omega arith })) (λ e. subst Dense (sym e) (record { solid = omega arith; some = omega arith })) s
says_dense false t s = ⊎_elim (λ e. subst Dense (sym e) (record { solid = omega arith; some = omega arith })) (λ e. subst Dense (sym e) (record { solid = omega arith; some = omega arith })) s

-- the kinds whose texts need no entity
abbrev pub Firm : Leaf → Type 0
Firm ref = ⊥
Firm (txt k) = ⊥
Firm iban = Unit {0}
Firm ccy = Unit {0}
Firm bool = Unit {0}
Firm num = Unit {0}
Firm amt = Unit {0}
Firm date = Unit {0}
Firm dtm = Unit {0}
Firm (enum ws) = Each (Begins is_capital is_capital) ws

pub iban_dense : (cs : List ℕ) → Iban cs → Dense cs
iban_dense cs i = record { solid = iban_each Solid solid_capital solid_digit solid_either cs i; some = omega (arith, i.lengths.0) }

pub ccy_dense : (cs : List ℕ) → Ccy cs → Dense cs
ccy_dense cs c = record { solid = each_all is_capital Solid solid_capital cs c.capitals; some = omega (arith, c.three) }

begins_dense : (w : List ℕ) → Begins is_capital is_capital w → Dense w
begins_dense [] b = absurd b
begins_dense (x ∷ w) b = record { solid = (solid_capital x b.0, each_all is_capital Solid solid_capital w b.1); some = suc-le-suc zero-le }

each_at : {A : Type 0} (P : A → Type 0) (l : List A) (d : A) (i : ℕ) → Each P l → i < length l → P (get_or l i d)
each_at P [] d i h k = absurd (omega arith)
each_at P (x ∷ l) d zero h k = h.0
each_at P (x ∷ l) d (suc i) h k = each_at P l d i h.1 (omega arith)

pub form_dense : (k : Leaf) (w t : List ℕ) (v : Value) → Firm k → Form k w t v → Dense t
form_dense k w t v f (Form.reference r) = absurd f
form_dense k w t v f (Form.writing r) = absurd f
form_dense k w t v f (Form.account i) = iban_dense t i
form_dense k w t v f (Form.currency c) = ccy_dense t c
form_dense k w t v f (Form.listed {ws = ws} a) = subst Dense a.is (begins_dense (get_or ws a.before []) (each_at (Begins is_capital is_capital) ws [] a.before f a.within))
form_dense k w t v f (Form.either {b = b} s) = says_dense b t s
form_dense k w t v f (Form.count n) = digits_dense t n.digits n.lengths.0
form_dense k w t v f (Form.money c a) = written_dense t a.spells.text
form_dense k w t v f (Form.dated {y} {m} {d} r e) = subst Dense (sym e) (day_dense y m d r)
form_dense k w t v f (Form.timed m) = moment_dense m
