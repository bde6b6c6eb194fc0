-- The laws of values, all kinds together. Assumes nothing.
use mathlib.Core.Path.{◌≡◌, refl, sym, ◌∙◌, ap}
use mathlib.Core.Bool.{Bool, true, false, cond, true≢false}
use mathlib.Core.List.{List, [], ◌∷◌, ◌++◌, append_assoc}
use mathlib.Core.Logic.{inl}
use Prim.Native.Nat.{ℕ, ◌+◌, ◌^◌, ◌≤◌, ◌<◌}
use native.Mathlib.Omega.{arith}
use native.Mathlib.Decide.{dec_lt}
use lib.ListN.{length, length-append}
use Rattle.text.specs.Bytes.{is_capital, is_letter, is_digit}
use Rattle.text.specs.Lists.{Each, All}
use Rattle.text_characters.specs.Utf8.{Scalar, encode_all}
use Rattle.text.specs.Numbers.{big_endian}
use Rattle.text_characters.specs.Pieces.{Spells}
use Rattle.text.proofs.Classes as classes
use Rattle.text.proofs.Numbers.{big_length, big_prefix}
use Rattle.list.specs.Listing.{Leaf, ref, iban, ccy, bool, num, amt, date, dtm, txt, enum}
use Rattle.list.specs.WellFormed.{LeafOk}
use Rattle.value.specs.types.Text.{Ref, Chars, is_ref, is_txt}
use Rattle.value.specs.mirror.Texts.{class_of}
use Rattle.value.specs.types.Code.{Iban, Ccy, is_letter_or_digit}
use Rattle.value.specs.types.Day.{Real}
use Rattle.value.specs.parts.Former.{DateRule, MomentBy, ordinary, midnight}
use Rattle.value.specs.types.Moment.{Parts}
use Rattle.value.specs.Value.{Value, text, place, truth, natural, amount, day, moment, IsValue, bytes}
use Rattle.value.specs.parts.Form.{Form, Left}
use Rattle.value.specs.Laws.{extra, ValueLaws}
use Rattle.value.proofs.classes.Classes.{Solid, each_all, each_map}
use Rattle.value.proofs.raw.Encoding.{same_front, same_text, encoded_most}
use Rattle.value.proofs.classes.Named.{reference, writing}
use Rattle.value.proofs.raw.Raw.{encoded_short, spelt_long}
use Rattle.value.proofs.raw.Trim.{trim_none, trim_long}
use Rattle.value.proofs.numbers.Decimals.{written_dense, least}
use Rattle.value.proofs.classes.Codes.{iban_most}
use Rattle.value.proofs.raw.Firm.{says_dense, iban_dense, ccy_dense, form_dense}
use Rattle.value.proofs.classes.Ink.{ink_not}
use Rattle.value.proofs.types.Shaped.{spelt_shaped}
use Rattle.value.proofs.types.Spell.{apart_of, one_spelt}

-- ---- the empty text spells none
left_none : (k : Leaf) (w t : List ℕ) (v : Value) → LeafOk k → Left k [] t → Form k w t v → ⊥
left_none ref w t v ok e (Form.reference r) = omega (arith, r.chars.some, ap length e)
left_none iban w t v ok e f = omega (arith, (form_dense iban w t v tt f).some, ap length e)
left_none ccy w t v ok e f = omega (arith, (form_dense ccy w t v tt f).some, ap length e)
left_none bool w t v ok e f = trim_none t e (form_dense bool w t v tt f)
left_none num w t v ok e f = trim_none t e (form_dense num w t v tt f)
left_none amt w t v ok e f = trim_none t e (form_dense amt w t v tt f)
left_none date w t v ok e f = trim_none t e (form_dense date w t v tt f)
left_none dtm w t v ok e f = trim_none t e (form_dense dtm w t v tt f)
left_none (txt n) w t v ok e (Form.writing r) = omega (arith, r.some, ap length e)
left_none (enum ws) w t v ok e f = omega (arith, (form_dense (enum ws) w t v ok.1 f).some, ap length e)

-- ---- each type has a value
one_ref : Ref (65 ∷ [])
unfolding is_ref
one_ref =
    record {
      chars = record { some = omega arith; most = omega arith; class = (refl, tt); ink = ink_not (65 ∷ []) (inl refl) };
      first = λ t e. let q : ◌≡◌ {A = ℕ} 65 47 = cc in omega arith;
      last = λ t e. last_go t e;
      twice = λ t u e. twice_go t u e;
    }
  where
    last_go : (t : List ℕ) → 65 ∷ [] ≡ t ++ (47 ∷ []) → ⊥
    last_go [] e = let q : ◌≡◌ {A = ℕ} 65 47 = cc in omega arith
    last_go (x ∷ t) e = omega (arith, ap length e, length-append t (47 ∷ []))

    twice_go : (t u : List ℕ) → 65 ∷ [] ≡ t ++ (47 ∷ 47 ∷ u) → ⊥
    twice_go t u e = omega (arith, ap length e, length-append t (47 ∷ 47 ∷ u))

one_txt : (k : ℕ) → 1 ≤ k → Chars is_txt k (65 ∷ [])
unfolding is_txt
one_txt k h = record { some = omega arith; most = h; class = (refl, tt); ink = ink_not (65 ∷ []) (inl refl) }

one_iban : Iban (65 ∷ 65 ∷ 48 ∷ 48 ∷ 65 ∷ [])
unfolding is_capital is_digit is_letter_or_digit is_letter
one_iban = record { lengths = omega arith; capitals = (refl, (refl, tt)); digits = (refl, (refl, tt)); class = (refl, tt) }

one_ccy : Ccy (65 ∷ 65 ∷ 65 ∷ [])
unfolding is_capital
one_ccy = record { three = refl; capitals = (refl, (refl, (refl, tt))) }

one_day : Real 1 1 1
one_day = record { year = omega arith; month = omega arith; day = omega arith }

some : (k : Leaf) → LeafOk k → (v : Value) × IsValue k v
some ref ok = (text (65 ∷ []), IsValue.reference one_ref)
some iban ok = (text (65 ∷ 65 ∷ 48 ∷ 48 ∷ 65 ∷ []), IsValue.account one_iban)
some ccy ok = (text (65 ∷ 65 ∷ 65 ∷ []), IsValue.currency one_ccy)
some bool ok = (truth true, IsValue.either)
some num ok = (natural 0, IsValue.count {n = 0} (omega arith))
some amt ok = (amount (65 ∷ 65 ∷ 65 ∷ []) 0 0, IsValue.money {k = 0} {c = 0} one_ccy (record { scale = omega arith; coefficient = omega arith; least = least 0 0 (inl refl) }))
some date ok = (day 1 1 1, IsValue.dated one_day)
some dtm ok = (moment 1 1 1 0 0 0 0 0, IsValue.timed {h = 0} {mi = 0} {s = 0} {u = 0} {z = 0} (record { day = one_day; clock = omega arith; fraction = omega arith; zone = omega arith }))
some (txt n) ok = (text (65 ∷ []), IsValue.writing (one_txt n ok.0))
some (enum ws) ok = (place 1, IsValue.listed {ws = ws} {n = 1} (omega arith) ok.0.0)

-- ---- bytes: no value is a beginning of another
class_below : (strict : Bool) (x : ℕ) → class_of strict x ≡ true → x < 0xD800
class_below true x e = go (dec_lt x 0xD800)
  where
    go : Dec (x < 0xD800) → x < 0xD800
    go (yes h) = h
    go (no h) = absurd (true≢false (sym e ∙ sym (classes.no reference (omega arith))))
class_below false x e = go (dec_lt x 0xD800)
  where
    go : Dec (x < 0xD800) → x < 0xD800
    go (yes h) = h
    go (no h) = absurd (true≢false (sym e ∙ sym (classes.no writing (omega arith))))

class_scalars : (strict : Bool) (cs : List ℕ) → All (class_of strict) cs → Each Scalar cs
class_scalars strict cs a = each_all (class_of strict) Scalar (λ x e. let b = class_below strict x e in record { below = omega arith; outside = λ h k. omega arith }) cs a

solid_scalars : (cs : List ℕ) → Each Solid cs → Each Scalar cs
solid_scalars cs s = each_map Solid Scalar (λ x h. let b = h.high in record { below = omega arith; outside = λ i j. omega arith }) cs s

text_prefix : (cs ds a b : List ℕ) → Each Scalar cs → Each Scalar ds → length cs ≤ 16383 → length ds ≤ 16383 → bytes (text cs) ++ a ≡ bytes (text ds) ++ b → (text cs ≡ text ds) × (a ≡ b)
text_prefix cs ds a b v w h k e = let s = same_text cs ds a b v w (omega (arith, encoded_most cs)) (omega (arith, encoded_most ds)) e in (ap text s.0, s.1)

day_prefix : (y m d y' m' d' : ℕ) (a b : List ℕ) → Real y m d → Real y' m' d' → (big_endian 2 y ++ (m ∷ d ∷ [])) ++ a ≡ (big_endian 2 y' ++ (m' ∷ d' ∷ [])) ++ b → (day y m d ≡ day y' m' d') × (a ≡ b)
day_prefix y m d y' m' d' a b r q e =
    let s = big_prefix 2 y y' (m ∷ d ∷ a) (m' ∷ d' ∷ b) (omega (arith, r.year.1)) (omega (arith, q.year.1)) (sym (append_assoc (big_endian 2 y) (m ∷ d ∷ []) a) ∙ e ∙ append_assoc (big_endian 2 y') (m' ∷ d' ∷ []) b) in
    let v = s.0 in
    let t = s.1 in
    (cc, cc)

money_prefix : (w w' : List ℕ) (k c k' c' : ℕ) (a b : List ℕ) → Ccy w → Ccy w' → c < 10 ^ 18 → c' < 10 ^ 18
    → (w ++ (k ∷ big_endian 8 c)) ++ a ≡ (w' ++ (k' ∷ big_endian 8 c')) ++ b → (amount w k c ≡ amount w' k' c') × (a ≡ b)
money_prefix w w' k c k' c' a b r q h h' e =
    let s = same_front w w' (k ∷ (big_endian 8 c ++ a)) (k' ∷ (big_endian 8 c' ++ b)) (r.three ∙ sym q.three) (sym (append_assoc w (k ∷ big_endian 8 c) a) ∙ e ∙ append_assoc w' (k' ∷ big_endian 8 c') b) in
    let v = s.0 in
    let t = s.1 in
    let u = big_prefix 8 c c' a b (omega arith) (omega arith) (cc) in
    let x = u.0 in
    (cc, u.1)

module _ {y mo d h mi s u z y' mo' d' h' mi' s' u' z' : ℕ} (a b : List ℕ) (p : Parts y mo d h mi s u z) (q : Parts y' mo' d' h' mi' s' u' z') where
  moment_prefix : bytes (moment y mo d h mi s u z) ++ a ≡ bytes (moment y' mo' d' h' mi' s' u' z') ++ b → (moment y mo d h mi s u z ≡ moment y' mo' d' h' mi' s' u' z') × (a ≡ b)
  moment_prefix e =
      let i = big_prefix 2 y y' (mo ∷ d ∷ h ∷ mi ∷ s ∷ ((big_endian 4 u ++ big_endian 2 z) ++ a)) (mo' ∷ d' ∷ h' ∷ mi' ∷ s' ∷ ((big_endian 4 u' ++ big_endian 2 z') ++ b))
      (omega (arith, p.day.year.1)) (omega (arith, q.day.year.1))
      (sym (append_assoc (big_endian 2 y) (mo ∷ d ∷ h ∷ mi ∷ s ∷ (big_endian 4 u ++ big_endian 2 z)) a) ∙ e ∙ append_assoc (big_endian 2 y') (mo' ∷ d' ∷ h' ∷ mi' ∷ s' ∷ (big_endian 4 u' ++ big_endian 2 z')) b) in
      let r = i.1 in
      let t : (big_endian 4 u ++ big_endian 2 z) ++ a ≡ (big_endian 4 u' ++ big_endian 2 z') ++ b = cc in
      let j = big_prefix 4 u u' (big_endian 2 z ++ a) (big_endian 2 z' ++ b) (omega (arith, p.fraction)) (omega (arith, q.fraction))
      (sym (append_assoc (big_endian 4 u) (big_endian 2 z) a) ∙ t ∙ append_assoc (big_endian 4 u') (big_endian 2 z') b) in
      let k = big_prefix 2 z z' a b (omega (arith, p.zone)) (omega (arith, q.zone)) j.1 in
      let v = i.0 in
      let w = j.0 in
      let x = k.0 in
      (cc, k.1)

truth_byte : (a b : Bool) → ◌≡◌ {A = ℕ} (cond a 1 0) (cond b 1 0) → a ≡ b
truth_byte true true e = refl
truth_byte false false e = refl
truth_byte true false e = absurd (omega arith)
truth_byte false true e = absurd (omega arith)

prefix : (k : Leaf) (v v' : Value) (a b : List ℕ) → LeafOk k → IsValue k v → IsValue k v' → bytes v ++ a ≡ bytes v' ++ b → (v ≡ v') × (a ≡ b)
prefix k v v' a b ok (IsValue.reference {cs = cs} r) (IsValue.reference {cs = ds} q) e = text_prefix cs ds a b (class_scalars true cs r.chars.class) (class_scalars true ds q.chars.class) (omega (arith, r.chars.most)) (omega (arith, q.chars.most)) e
prefix k v v' a b ok (IsValue.writing {cs = cs} r) (IsValue.writing {cs = ds} q) e = text_prefix cs ds a b (class_scalars false cs r.class) (class_scalars false ds q.class) (omega (arith, r.most, ok.1)) (omega (arith, q.most, ok.1)) e
prefix k v v' a b ok (IsValue.account {cs = cs} r) (IsValue.account {cs = ds} q) e = text_prefix cs ds a b (solid_scalars cs (iban_dense cs r).solid) (solid_scalars ds (iban_dense ds q).solid) (omega (arith, iban_most cs r)) (omega (arith, iban_most ds q)) e
prefix k v v' a b ok (IsValue.currency {cs = cs} r) (IsValue.currency {cs = ds} q) e = text_prefix cs ds a b (solid_scalars cs (ccy_dense cs r).solid) (solid_scalars ds (ccy_dense ds q).solid) (omega (arith, r.three)) (omega (arith, q.three)) e
prefix k v v' a b ok (IsValue.listed h i) (IsValue.listed j l) e = (cc, cc)
prefix k v v' a b ok (IsValue.either {b = x}) (IsValue.either {b = y}) e = (ap truth (truth_byte x y (cc)), cc)
prefix k v v' a b ok (IsValue.count {n = n} h) (IsValue.count {n = m} i) e = let s = big_prefix 8 n m a b (omega arith) (omega arith) e in (ap natural s.0, s.1)
prefix k v v' a b ok (IsValue.money r x) (IsValue.money q y) e = money_prefix _ _ _ _ _ _ a b r q x.coefficient y.coefficient e
prefix k v v' a b ok (IsValue.dated r) (IsValue.dated q) e = day_prefix _ _ _ _ _ _ a b r q e
prefix k v v' a b ok (IsValue.timed p) (IsValue.timed q) e = moment_prefix a b p q e

-- ---- and how many there are
left_long : (k : Leaf) (cs t : List ℕ) → Left k cs t → length t ≤ length cs
left_long ref cs t e = omega (arith, ap length e)
left_long iban cs t e = omega (arith, ap length e)
left_long ccy cs t e = omega (arith, ap length e)
left_long bool cs t e = trim_long cs t e
left_long num cs t e = trim_long cs t e
left_long amt cs t e = trim_long cs t e
left_long date cs t e = trim_long cs t e
left_long dtm cs t e = trim_long cs t e
left_long (txt n) cs t e = omega (arith, ap length e)
left_long (enum ws) cs t e = omega (arith, ap length e)

pub text_bytes_lem : (cs : List ℕ) → length (bytes (text cs)) ≡ 2 + length (encode_all cs)
text_bytes_lem cs = omega (arith, length-append (big_endian 2 (length (encode_all cs))) (encode_all cs), big_length 2 (length (encode_all cs)))

pub money_bytes : (w : List ℕ) (k c : ℕ) → Ccy w → length (bytes (amount w k c)) ≡ 12
money_bytes w k c r = omega (arith, r.three, length-append w (k ∷ big_endian 8 c), big_length 8 c)

pub day_bytes : (y m d : ℕ) → length (bytes (day y m d)) ≡ 4
day_bytes y m d = omega (arith, length-append (big_endian 2 y) (m ∷ d ∷ []), big_length 2 y)

pub moment_bytes : (y mo d h mi s u z : ℕ) → length (bytes (moment y mo d h mi s u z)) ≡ 13
moment_bytes y mo d h mi s u z = omega (arith, length-append (big_endian 2 y) (mo ∷ d ∷ h ∷ mi ∷ s ∷ (big_endian 4 u ++ big_endian 2 z)), length-append (big_endian 4 u) (big_endian 2 z), big_length 2 y, big_length 4 u, big_length 2 z)

moment_long : {rule : DateRule} {t : List ℕ} {y mo d h mi s u z : ℕ} → MomentBy rule t y mo d h mi s u z → 19 ≤ length t
moment_long (ordinary w) = omega (arith, ap length w.is)
moment_long (midnight e w) = omega (arith, ap length w.is)

-- a text, of whose characters the raw text has no fewer bytes
text_short : (s cs t : List ℕ) → Spells s cs → cs ≡ t → length (bytes (text t)) ≤ length s + 2
text_short s cs t w e = omega (arith, text_bytes_lem t, ap (λ (l : List ℕ). length (encode_all l)) e, encoded_short s cs w)

form_short : (k : Leaf) (w s cs t : List ℕ) (v : Value) → LeafOk k → Spells s cs → Left k cs t → Form k w t v → length (bytes v) ≤ length s + extra k
form_short k w s cs t v ok p l (Form.reference r) = text_short s cs t p l
form_short k w s cs t v ok p l (Form.writing r) = text_short s cs t p l
form_short k w s cs t v ok p l (Form.account r) = text_short s cs t p l
form_short k w s cs t v ok p l (Form.currency r) = text_short s cs t p l
form_short k w s cs t v ok p l (Form.listed a) = omega (arith, (form_dense k w t v ok.1 (Form.listed a)).some, ap length l, spelt_long s cs p)
form_short k w s cs t v ok p l (Form.either {b = b} a) = omega (arith, (says_dense b t a).some, trim_long cs t l, spelt_long s cs p)
form_short k w s cs t v ok p l (Form.count {n = n} a) = omega (arith, a.lengths.0, trim_long cs t l, spelt_long s cs p, big_length 8 n)
form_short k w s cs t v ok p l (Form.money {k = j} {c = c} r a) = omega (arith, (written_dense t a.spells.text).some, trim_long cs t l, spelt_long s cs p, money_bytes w j c r)
form_short k w s cs t v ok p l (Form.dated {y} {m} {d} r e) = omega (arith, ap length e, trim_long cs t l, spelt_long s cs p, day_bytes y m d)
form_short k w s cs t v ok p l (Form.timed {y = y} {mo = mo} {d = d} {h = h} {mi = mi} {s = c} {u = u} {z = z} m) = omega (arith, moment_long m, trim_long cs t l, spelt_long s cs p, moment_bytes y mo d h mi c u z)

pub value_laws : ValueLaws
value_laws =
    record {
      one = λ k w cs v v' ok a b. one_spelt k w cs v v' (apart_of k ok) a b;
      is = λ k w cs v a. a.is;
      none = λ k w v ok a. let b = spelt_shaped k w [] v a in left_none k w b.left v ok b.lost b.form;
      some = some;
      prefix = prefix;
      short = λ k w s cs v ok p a. let b = spelt_shaped k w cs v a in form_short k w s cs b.left v ok p b.lost b.form;
    }
