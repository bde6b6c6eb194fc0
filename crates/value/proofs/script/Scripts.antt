-- The text that is written for a value spells that value. Assumes nothing.
use mathlib.Core.Path.{◌≡◌, refl, sym, ◌∙◌, ap, subst}
use mathlib.Core.Bool.{Bool, true, false, cond}
use mathlib.Core.Logic.{◌↔◌, ◌≢◌, inl, inr}
use mathlib.Core.List.{List, [], ◌∷◌, ◌++◌, append_assoc, append-nil}
use Prim.Native.Nat.{ℕ, zero, suc, ◌+◌, ◌*◌, ◌-◌, ◌/◌, ◌%◌, ◌^◌, ◌≤◌, ◌<◌}
use native.Mathlib.Nat.{div-one}
use native.Mathlib.Decide.{ℕ_discrete, dec_lt}
use native.Mathlib.Omega.{arith}
use lib.Dec.{eqb, ltb}
use lib.ListN.{length, length-append}
use borrow.Author.Tests.{eqb-true, ltb-true, ltb-false}
use Rattle.text.specs.Bytes.{ascii, is_digit}
use Rattle.text.specs.Lists.{All}
use Rattle.text.specs.Digits.{digits as figures_in, in_digits, padded, pointed}
use Rattle.text.proofs.Digits.{digits_one, digits_more, length_some, length_most, length_padded, tenths}
use Rattle.list.specs.Listing.{Leaf, ref, iban, ccy, bool, num, amt, date, dtm, txt, enum}
use Rattle.value.specs.types.Plain.{decimal_from, Num, SaysTruth, Trimmed}
use Rattle.value.specs.parts.Numeral.{Decimal, Price, no_point as whole, point, decimal}
use Rattle.value.specs.types.Amount.{Bounded}
use Rattle.value.specs.parts.Numeral as A
use Rattle.value.specs.parts.Former.{former, present, Fraction, no_fraction, decimals, FractionOk, micros, Zone, zulu, ahead, behind, ZoneOk, offset, MomentBy, ordinary}
use Rattle.value.specs.types.Moment.{Parts}
use Rattle.value.specs.Value.{Value, moment, IsValue, Spelt}
use Rattle.value.specs.parts.Form.{Form, Left}
use Rattle.value.specs.Rules.{InThousandths}
use Rattle.value.proofs.classes.Classes.{digit_yes}
use Rattle.value.proofs.numbers.Decimals.{canon}
use Rattle.value.proofs.numbers.Numerals.{all_append}
use Rattle.value.proofs.types.Shaped.{shaped_spelt}
use Rattle.value.proofs.raw.Trim.{Dense}
use Rattle.value.proofs.dates.Dates.{whole_dense}
use Rattle.value.proofs.raw.Firm.{Firm, form_dense}
use Rattle.value.proofs.Rules.{by_present, by_is, spelt_fine, parts_former}
use Rattle.value.specs.mirror.Stored.{truth_text, fraction_of, zone_of}
use Rattle.value.specs.script.Script.{script_of, currency_of}
use Rattle.value.specs.Spelled.{Spelled, SpelledByEither}
use Rattle.value.proofs.script.Moments.{none_of, one_of, two_of, three_of, six_of, script_moment}

-- ---- digits: which number they write

last_digit : (a : ℕ) (ds : List ℕ) (d : ℕ) → decimal_from a (ds ++ ((48 + d) ∷ [])) ≡ decimal_from a ds * 10 + d
unfolding decimal_from
last_digit a [] d = let e : 48 + d - 48 ≡ d = omega arith in ap (λ (x : ℕ). a * 10 + x) e
last_digit a (x ∷ ds) d = last_digit (a * 10 + (x - 48)) ds d

-- the written digits of a number: digits, of that number
record Figures (n : ℕ) : Type 0 where
  digits : All is_digit (in_digits n)
  is : decimal (in_digits n) ≡ n

figures_one : (n : ℕ) → n < 10 → Figures n
unfolding decimal_from
figures_one n h =
    let e = digits_one n h in
    let i : 0 * 10 + (48 + n - 48) ≡ n = omega arith in
    record { digits = rw e (digit_yes n h, tt); is = ap decimal e ∙ i }

figures_more : (n : ℕ) → 10 ≤ n → Figures (n / 10) → Figures n
figures_more n h f =
    let e = digits_more n h in
    let i : n / 10 * 10 + n % 10 ≡ n = omega arith in
    record {
      digits = rw e (all_append is_digit (in_digits (n / 10)) ((48 + n % 10) ∷ []) f.digits (digit_yes (n % 10) (omega arith), tt));
      is = ap decimal e ∙ last_digit 0 (in_digits (n / 10)) (n % 10) ∙ ap (λ (x : ℕ). x * 10 + n % 10) f.is ∙ i;
    }

figures_in_lem : (f n : ℕ) → n ≤ f → Figures n
figures_in_lem zero n h = figures_one n (omega arith)
figures_in_lem (suc f) n h = go (dec_lt n 10) (figures_in_lem f (n / 10))
  where
    go : Dec (n < 10) → (n / 10 ≤ f → Figures (n / 10)) → Figures n
    go (yes d) ih = figures_one n d
    go (no d) ih = figures_more n (omega arith) (ih (omega arith))

figures : (n : ℕ) → Figures n
figures n = figures_in_lem n n (omega arith)

-- "NUM without leading zeros (zero is `0`)"
first_digit : (f n : ℕ) → n ≤ f → 0 < n → (t : List ℕ) → in_digits n ≡ 48 ∷ t → ⊥
first_digit zero n h z t e = omega arith
first_digit (suc f) n h z t e = go (dec_lt n 10) (first_digit f (n / 10)) (in_digits (n / 10)) refl
  where
    go : Dec (n < 10) → (n / 10 ≤ f → 0 < n / 10 → (t : List ℕ) → in_digits (n / 10) ≡ 48 ∷ t → ⊥) → (u : List ℕ) → in_digits (n / 10) ≡ u → ⊥
    go (yes d) ih u q = let p = digits_one n d in let w : 48 + n ≡ 48 = cc in omega arith
    go (no d) ih [] q = omega (arith, ap length q, length_some (n / 10))
    go (no d) ih (x ∷ u) q =
        let p : 48 ∷ t ≡ (x ∷ u) ++ ((48 + n % 10) ∷ []) = sym e ∙ digits_more n (omega arith) ∙ ap (λ (l : List ℕ). l ++ ((48 + n % 10) ∷ [])) q in
        let w : x ≡ 48 = cc in
        ih (omega arith) (omega arith) u (q ∙ ap (λ (y : ℕ). y ∷ u) w)

pub no_leading_zero : (n : ℕ) → 0 < n → (t : List ℕ) → in_digits n ≡ 48 ∷ t → ⊥
no_leading_zero n = first_digit n n (omega arith)

pub number_spelt : (n : ℕ) → n < 10 ^ 18 → Num (in_digits n) n
number_spelt n h = record { lengths = (length_some n, length_most 17 n h); digits = (figures n).digits; is = sym (figures n).is }

-- ---- amounts

digits_padded : (k n : ℕ) → All is_digit (padded k n)
unfolding padded
digits_padded zero n = tt
digits_padded (suc k) n = all_append is_digit (padded k (n / 10)) ((48 + n % 10) ∷ []) (digits_padded k (n / 10)) (digit_yes (n % 10) (omega arith), tt)

-- the digits before the point and those after it, read as one number
joined : (k c : ℕ) → decimal (in_digits (c / 10 ^ k) ++ padded k c) ≡ c
unfolding padded
joined zero c = ap decimal (append-nil (in_digits (c / 1))) ∙ (figures (c / 1)).is ∙ div-one c
joined (suc k) c =
    let i : c / 10 * 10 + c % 10 ≡ c = omega arith in
    ap (λ (w : ℕ). decimal (in_digits w ++ (padded k (c / 10) ++ ((48 + c % 10) ∷ [])))) (tenths k c)
    ∙ ap decimal (sym (append_assoc (in_digits (c / 10 / 10 ^ k)) (padded k (c / 10)) ((48 + c % 10) ∷ [])))
    ∙ last_digit 0 (in_digits (c / 10 / 10 ^ k) ++ padded k (c / 10)) (c % 10)
    ∙ ap (λ (w : ℕ). w * 10 + c % 10) (joined k (c / 10)) ∙ i

-- without a sign
unsigned : {t : List ℕ} {c k : ℕ} (d : Decimal t c k) → d.text.sign ≡ A.unsigned → Bounded c k → Price t c k
unsigned d n b = record { spells = d; bounds = b; sign = λ e. let q : A.unsigned ≡ A.minus = sym n ∙ e in absurd (let z : ◌≡◌ {A = ℕ} 0 1 = cc in omega arith) }

pub amount_spelt : (k c : ℕ) → Bounded c k → Price (pointed k c) c k
amount_spelt zero c b =
    unsigned (record {
      text = record { sign = A.unsigned; whole = in_digits c; places = whole; is = sym (append-nil (in_digits c)); digits = ((figures c).digits, tt); some = omega (arith, length_some c, ap length (append-nil (in_digits c))) };
      same = ap (λ (w : ℕ). w * 10 ^ 0) (ap decimal (append-nil (in_digits c)) ∙ (figures c).is);
      least = b.least;
    }) refl b
amount_spelt (suc k) c b =
    let n = c / 10 ^ suc k in
    unsigned (record {
      text = record {
        sign = A.unsigned;
        whole = in_digits n;
        places = point (padded (suc k) c);
        is = refl;
        digits = ((figures n).digits, digits_padded (suc k) c);
        some = omega (arith, length_some n, length-append (in_digits n) (padded (suc k) c));
      };
      same = ap (λ (w : ℕ). w * 10 ^ suc k) (joined (suc k) c) ∙ ap (λ (w : ℕ). c * 10 ^ w) (sym (length_padded (suc k) c));
      least = b.least;
    }) refl b

-- "amounts with their smallest scale": the last digit after a point is no zero
last_same : (s t : List ℕ) (x y : ℕ) → s ++ (x ∷ []) ≡ t ++ (y ∷ []) → x ≡ y
last_same [] [] x y e = cc
last_same [] (b ∷ t) x y e = absurd (omega (arith, ap length e, length-append t (y ∷ [])))
last_same (a ∷ s) [] x y e = absurd (omega (arith, ap length e, length-append s (x ∷ [])))
last_same (a ∷ s) (b ∷ t) x y e = last_same s t x y (cc)

pub no_last_zero : (k c : ℕ) → Bounded c (suc k) → (t : List ℕ) → pointed (suc k) c ≡ t ++ (48 ∷ []) → ⊥
unfolding padded
no_last_zero k c b t e =
    let w = in_digits (c / 10 ^ suc k) in
    let p = padded k (c / 10) in
    let q : w ++ (46 ∷ (p ++ ((48 + c % 10) ∷ []))) ≡ (w ++ (46 ∷ p)) ++ ((48 + c % 10) ∷ []) = sym (append_assoc w (46 ∷ p) ((48 + c % 10) ∷ [])) in
    canon c k b.least (omega (arith, last_same (w ++ (46 ∷ p)) t (48 + c % 10) 48 (sym q ∙ e)))

-- "(as `0.5` and `7`)"; "(zero is `0`)"
pub half : pointed 1 5 ≡ ascii "0.5"
unfolding in_digits padded figures_in
half = refl

pub seven : pointed 0 7 ≡ ascii "7"
unfolding in_digits figures_in
seven = refl

pub nought : in_digits 0 ≡ ascii "0"
unfolding in_digits figures_in
nought = refl

-- ---- moments

-- the fraction that is written, and why it is that one
data Chosen (u : ℕ) : Fraction → Type 0 where
  none : u ≡ 0 → Chosen u no_fraction
  one : u ≢ 0 → u % 100000 ≡ 0 → Chosen u (decimals 1 (u / 100000))
  two : u % 100000 ≢ 0 → u % 10000 ≡ 0 → Chosen u (decimals 2 (u / 10000))
  three : u % 10000 ≢ 0 → u % 1000 ≡ 0 → Chosen u (decimals 3 (u / 1000))
  six : u % 1000 ≢ 0 → Chosen u (decimals 6 u)

chosen : (u : ℕ) → Chosen u (fraction_of u)
chosen u = go (ℕ_discrete u 0) (ℕ_discrete (u % 100000) 0) (ℕ_discrete (u % 10000) 0) (ℕ_discrete (u % 1000) 0)
  where
    go : Dec (u ≡ 0) → Dec (u % 100000 ≡ 0) → Dec (u % 10000 ≡ 0) → Dec (u % 1000 ≡ 0) → Chosen u (fraction_of u)
    go (yes e) a b c = subst (Chosen u) (sym (none_of u e)) (Chosen.none e)
    go (no z) (yes e) b c = subst (Chosen u) (sym (one_of u z e)) (Chosen.one z e)
    go (no z) (no a) (yes e) c = subst (Chosen u) (sym (two_of u z a e)) (Chosen.two a e)
    go (no z) (no a) (no b) (yes e) = subst (Chosen u) (sym (three_of u z a b e)) (Chosen.three b e)
    go (no z) (no a) (no b) (no c) = subst (Chosen u) (sym (six_of u z a b c)) (Chosen.six c)

-- "a point and one to three digits, the last not zero", where it is no finer
fraction_ok : (u : ℕ) (x : Fraction) → Chosen u x → u < 1000000 → u % 1000 ≡ 0 → FractionOk present x
fraction_ok u x (Chosen.none e) h f = tt
fraction_ok u x (Chosen.one z e) h f = ((omega arith, omega arith), omega arith, λ q. z (let k : u / 100000 % 10 ≡ u / 100000 = omega arith in let j : u / 100000 ≡ 0 = sym k ∙ q in omega arith))
fraction_ok u x (Chosen.two a e) h f = ((omega arith, omega arith), omega arith, λ q. a (let k : u ≡ u / 10000 / 10 * 100000 = omega arith in omega arith))
fraction_ok u x (Chosen.three b e) h f = ((omega arith, omega arith), omega arith, λ q. b (let k : u ≡ u / 1000 / 10 * 10000 = omega arith in omega arith))
fraction_ok u x (Chosen.six c) h f = absurd (c f)

fraction_is : (u : ℕ) (x : Fraction) → Chosen u x → u ≡ micros x
fraction_is u x (Chosen.none e) = e
fraction_is u x (Chosen.one z e) = omega arith
fraction_is u x (Chosen.two a e) = omega arith
fraction_is u x (Chosen.three b e) = omega arith
fraction_is u x (Chosen.six c) = omega arith

tens : (n w : ℕ) → n ≡ 10 * w → n % 10 ≡ 0
tens n w e = omega arith

-- the shortest: the present rule has no other fraction of so many microseconds
pub only_fraction : (x : Fraction) → FractionOk present x → (u : ℕ) → u ≡ micros x → fraction_of u ≡ x
only_fraction no_fraction g u e = none_of u e
only_fraction (decimals zero n) g u e = absurd (omega (arith, g.0.0))
only_fraction (decimals (suc zero) n) g u e =
    let q : u / 100000 ≡ n = omega arith in
    one_of u (λ z. g.2 (omega arith)) (omega arith) ∙ ap (decimals 1) q
only_fraction (decimals (suc (suc zero)) n) g u e =
    let q : u / 10000 ≡ n = omega arith in
    two_of u (λ z. g.2 (omega arith)) (λ z. g.2 (tens n (u / 100000) (omega arith))) (omega arith) ∙ ap (decimals 2) q
only_fraction (decimals (suc (suc (suc zero))) n) g u e =
    let q : u / 1000 ≡ n = omega arith in
    let a : u % 100000 ≢ 0 = λ z. g.2 (tens n (10 * (u / 100000)) (omega arith)) in
    let b : u % 10000 ≢ 0 = λ z. g.2 (tens n (u / 10000) (omega arith)) in
    three_of u (λ z. g.2 (omega arith)) a b (omega arith) ∙ ap (decimals 3) q
only_fraction (decimals (suc (suc (suc (suc k)))) n) g u e = absurd (omega (arith, g.0.1))

-- the zone of z, after the tests
abbrev zone_by : Bool → Bool → ℕ → Zone
zone_by a b z = cond a zulu (cond b (behind ((840 - z) / 60) ((840 - z) % 60)) (ahead ((z - 840) / 60) ((z - 840) % 60)))

record Zoned (t : Zone) (z : ℕ) : Type 0 where
  good : ZoneOk t
  is : z ≡ offset t

zone_by_lem : (a b : Bool) (z : ℕ) → eqb z 840 ≡ a → ltb z 840 ≡ b → z ≤ 1680 → Zoned (zone_by a b z) z
zone_by_lem true b z e f h = record { good = tt; is = eqb-true z 840 e }
zone_by_lem false true z e f h = let l = ltb-true z 840 f in record { good = record { minutes = omega arith; most = omega arith }; is = omega arith }
zone_by_lem false false z e f h = let l = ltb-false z 840 f in record { good = record { minutes = omega arith; most = omega arith }; is = omega arith }

zoned : (z : ℕ) → z ≤ 1680 → Zoned (zone_of z) z
zoned z h = zone_by_lem (eqb z 840) (ltb z 840) z refl refl h

pub moment_spelt : {y mo d h mi s u z : ℕ} → Parts y mo d h mi s u z → u % 1000 ≡ 0 → MomentBy present (script_of dtm (moment y mo d h mi s u z)) y mo d h mi s u z
moment_spelt {y} {mo} {d} {h} {mi} {s} {u} {z} p f =
    let w = zoned z p.zone in
    let x = fraction_of u in
    ordinary (record { day = p.day; clock = p.clock; fraction = x; zone = zone_of z; good = (fraction_ok u x (chosen u) p.fraction f, w.good); is = script_moment y mo d h mi s u z; parts = (fraction_is u x (chosen u), w.is) })

-- no blank and no entity stands in it, however fine it is
moment_firm : {y mo d h mi s u z : ℕ} → Parts y mo d h mi s u z → Dense (script_of dtm (moment y mo d h mi s u z))
moment_firm {y} {mo} {d} {h} {mi} {s} {u} {z} p =
    whole_dense _ y mo d h mi s (fraction_of u) (zone_of z) p.day (omega (arith, p.clock.0)) p.clock.1 p.clock.2 (zoned z p.zone).good (script_moment y mo d h mi s u z)

-- ---- all kinds

says : (b : Bool) → SaysTruth (truth_text b) b
says true = inl refl
says false = inl refl

pub script_form : (f : Leaf) (v : Value) → IsValue f v → InThousandths v → Form f (currency_of v) (script_of f v) v
script_form f v (IsValue.reference r) q = Form.reference r
script_form f v (IsValue.writing r) q = Form.writing r
script_form f v (IsValue.account r) q = Form.account r
script_form f v (IsValue.currency r) q = Form.currency r
script_form f v (IsValue.listed {ws = ws} {n = n} a b) q = Form.listed {ws = ws} {n = n} (record { before = n - 1; from = omega arith; within = omega arith; is = refl })
script_form f v (IsValue.either {b = b}) q = Form.either (says b)
script_form f v (IsValue.count {n = n} h) q = Form.count (number_spelt n h)
script_form f v (IsValue.money {k = k} {c = c} r b) q = Form.money r (amount_spelt k c b)
script_form f v (IsValue.dated r) q = Form.dated r refl
script_form f v (IsValue.timed p) q = Form.timed (moment_spelt p q)

-- of the kinds whose texts need no entity
pub script_dense : (f : Leaf) (v : Value) → Firm f → IsValue f v → Dense (script_of f v)
script_dense f v k (IsValue.reference r) = absurd k
script_dense f v k (IsValue.writing r) = absurd k
script_dense f v k (IsValue.account r) = form_dense f [] (script_of f v) v k (Form.account r)
script_dense f v k (IsValue.currency r) = form_dense f [] (script_of f v) v k (Form.currency r)
script_dense f v k (IsValue.listed {ws = ws} {n = n} a b) = form_dense f [] (script_of f v) v k (script_form f v (IsValue.listed a b) tt)
script_dense f v k (IsValue.either {b = b}) = form_dense f [] (script_of f v) v k (Form.either (says b))
script_dense f v k (IsValue.count {n = n} h) = form_dense f [] (script_of f v) v k (Form.count (number_spelt n h))
script_dense f v k (IsValue.money {w = w} {k = s} {c = c} r b) = form_dense f w (script_of f v) v k (Form.money r (amount_spelt s c b))
script_dense f v k (IsValue.dated r) = form_dense f [] (script_of f v) v k (Form.dated r refl)
script_dense f v k (IsValue.timed p) = moment_firm p

-- nothing is lost: no blank stands around it
bare : (t : List ℕ) → Trimmed t t
bare t = record { lead = []; tail = []; blanks = (tt, tt); is = sym (append-nil t) }

left_all : (f : Leaf) (t : List ℕ) → Left f t t
left_all ref t = refl
left_all iban t = refl
left_all ccy t = refl
left_all bool t = bare t
left_all num t = bare t
left_all amt t = bare t
left_all date t = bare t
left_all dtm t = bare t
left_all (txt k) t = refl
left_all (enum ws) t = refl

-- the text that is written for a value spells it, where the present rule is fine enough
pub script_spelt : (f : Leaf) (v : Value) → IsValue f v → InThousandths v → Spelt f (currency_of v) (script_of f v) v
script_spelt f v h q = shaped_spelt f (currency_of v) (script_of f v) v (record { left = script_of f v; lost = left_all f (script_of f v); form = script_form f v h q })

-- so these are the values that some text spells by the present rule: what is finer is spelt by none
pub present_spelt : (f : Leaf) (v : Value) → (IsValue f v × InThousandths v) ↔ Spelled present f v
present_spelt f v = (
  (λ h. record { coin = currency_of v; chars = script_of f v; spelt = (by_present f (currency_of v) (script_of f v) v).1 (script_spelt f v h.0 h.1) }),
  (λ s. (by_is present f s.coin s.chars v s.spelt, spelt_fine f s.coin s.chars v ((by_present f s.coin s.chars v).0 s.spelt))),
)

-- "over the former and the new date-time rule together": a type has exactly the values that some text spells by the one or the other
pub both_rules : (f : Leaf) (v : Value) → IsValue f v ↔ SpelledByEither f v
both_rules f v = (there f v, back)
  where
    now : (f : Leaf) (v : Value) → IsValue f v → InThousandths v → SpelledByEither f v
    now f v h q = inr ((present_spelt f v).0 (h, q))

    there : (f : Leaf) (v : Value) → IsValue f v → SpelledByEither f v
    there f v (IsValue.reference r) = now f v (IsValue.reference r) tt
    there f v (IsValue.writing r) = now f v (IsValue.writing r) tt
    there f v (IsValue.account r) = now f v (IsValue.account r) tt
    there f v (IsValue.currency r) = now f v (IsValue.currency r) tt
    there f v (IsValue.listed a b) = now f v (IsValue.listed a b) tt
    there f v IsValue.either = now f v IsValue.either tt
    there f v (IsValue.count h) = now f v (IsValue.count h) tt
    there f v (IsValue.money r b) = now f v (IsValue.money r b) tt
    there f v (IsValue.dated r) = now f v (IsValue.dated r) tt
    there f v (IsValue.timed p) = let o = parts_former [] p in inl (record { coin = []; chars = o.0; spelt = record { left = o.0; lost = bare o.0; form = o.1 } })

    back : SpelledByEither f v → IsValue f v
    back (inl s) = by_is former f s.coin s.chars v s.spelt
    back (inr s) = by_is present f s.coin s.chars v s.spelt
