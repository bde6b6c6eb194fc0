-- The reading of amounts, step by step at a place of a list; what is refused early; and that an answer so read is right. Assumes nothing.
use mathlib.Core.Path.{◌≡◌, refl, sym, ◌∙◌, ap, subst}
use mathlib.Core.Bool.{Bool, true, false, cond, ◌&&◌, not, true≢false}
use mathlib.Core.List.{List, [], ◌∷◌}
use mathlib.Core.Logic.{◌⊎◌, inl, inr, ◌≢◌}
use Prim.Native.Nat.{ℕ, zero, suc, ◌+◌, ◌*◌, ◌-◌, ◌/◌, ◌^◌, ◌≤◌, ◌<◌}
use native.Mathlib.Nat.{pow-suc, mul_assoc, le-div_iff_mul-le}
use native.Mathlib.Numerals.{add-one}
use native.Mathlib.Omega.{arith}
use lib.Dec.{leb, ltb, eqb}
use lib.ListN.{length, get_or, drop, drop_of_length-le}
use lib.Seq.{drop-cons}
use borrow.Author.Tests.{le-leb, lt-leb, lt-ltb, le-ltb, eq-eqb, ne_eqb, eqb-true, eqb-false, leb-true, leb-false, ltb-true, ltb-false}
use Rattle.text.specs.Bytes.{is_digit}
use Rattle.list.specs.Listing.{amt}
use Rattle.std.specs.Prelude.{Option, Some, None}
use Rattle.value.specs.declared.judged.Judged.{Judged}
use Rattle.value.specs.declared.judged.Judged.TheVariants as J
use Rattle.value.specs.parts.Numeral.{Sign, unsigned, plus, minus, Price}
use Rattle.value.specs.Value.{Value}
use Rattle.value.specs.parts.Form.{Form}
use Rattle.value.specs.Judged.{Formed, formed, formless, FormedAny}
use Rattle.value.specs.mirror.Reading.{Found, bad, found, frac_of, whole_of, point_of, signed_of, read_of, answer}
use Rattle.value.proofs.numbers.Decimals.{is_minus, complete, sound}

-- ---- what is answered
pub answer_bad : answer bad ≡ None
unfolding answer
answer_bad = refl

pub answer_good : (n : Bool) (c k : ℕ) → c < 10 ^ 18 → k ≤ 5 → answer (found n c k) ≡ cond (n && not (eqb c 0)) None (Some (J.Amount c k))
unfolding answer
answer_good n c k h j = rw (le-leb k 5 j, lt-ltb c (10 ^ 18) h)

abbrev pub Over : ℕ → ℕ → Type 0
Over c k = (10 ^ 18 ≤ c) ⊎ (5 < k)

answer_over : (n : Bool) (c k : ℕ) → Over c k → answer (found n c k) ≡ None
unfolding answer
answer_over n c k (inr h) = rw (lt-leb k 5 h)
answer_over n c k (inl h) = go (leb k 5)
  where
    go : (u : Bool) → cond u (cond (ltb c (10 ^ 18)) (cond (n && not (eqb c 0)) None (Some (J.Amount c k))) None) None ≡ None
    go true = rw (le-ltb c (10 ^ 18) h)
    go false = refl

grown : (c k c' k' : ℕ) → Over c k → c ≤ c' → k ≤ k' → Over c' k'
grown c k c' k' (inl h) p q = inl (omega arith)
grown c k c' k' (inr h) p q = inr (omega arith)

frac_over : (n : Bool) (a f c k : ℕ) (t : List ℕ) → Over c k → c ≤ a → k ≤ f → answer (frac_of n a f c k t) ≡ None
unfolding frac_of
frac_over n a f c k [] h p q = answer_over n c k h
frac_over n a f c k (x ∷ t) h p q =
    go (is_digit x) (eqb x 48) (frac_over n (a * 10) (suc f) c k t h (omega arith) (omega arith))
    (frac_over n (a * 10 + (x - 48)) (suc f) (a * 10 + (x - 48)) (suc f) t (grown c k (a * 10 + (x - 48)) (suc f) h (omega arith) (omega arith)) (omega arith) (omega arith))
  where
    go : (u v : Bool) → answer (frac_of n (a * 10) (suc f) c k t) ≡ None → answer (frac_of n (a * 10 + (x - 48)) (suc f) (a * 10 + (x - 48)) (suc f) t) ≡ None
        → answer (cond u (cond v (frac_of n (a * 10) (suc f) c k t) (frac_of n (a * 10 + (x - 48)) (suc f) (a * 10 + (x - 48)) (suc f) t)) bad) ≡ None
    go true true i j = i
    go true false i j = j
    go false v i j = answer_bad

whole_over : (n : Bool) (a : ℕ) (t : List ℕ) → 10 ^ 18 ≤ a → answer (whole_of n a t) ≡ None
unfolding whole_of
whole_over n a [] h = answer_over n a 0 (inl h)
whole_over n a (x ∷ t) h = go (is_digit x) (eqb x 46) (whole_over n (a * 10 + (x - 48)) t (omega arith))
  where
    go : (u v : Bool) → answer (whole_of n (a * 10 + (x - 48)) t) ≡ None → answer (cond u (whole_of n (a * 10 + (x - 48)) t) (cond v (frac_of n a 0 a 0 t) bad)) ≡ None
    go true v i = i
    go false true i = frac_over n a 0 a 0 t (inl h) (omega arith) (omega arith)
    go false false i = answer_bad

-- ---- at a place of a list
module _ (s : List ℕ) (i : ℕ) (n : Bool) where
  pub frac_end : (a f c k : ℕ) → length s ≤ i → frac_of n a f c k (drop i s) ≡ found n c k
  unfolding frac_of
  frac_end a f c k h = rw (drop_of_length-le s h)

  pub frac_stop : (a f c k : ℕ) → i < length s → is_digit (get_or s i 0) ≡ false → frac_of n a f c k (drop i s) ≡ bad
  unfolding frac_of
  frac_stop a f c k h e = rw (drop-cons s i 0, e)

  -- z zeros were read after c over 10^k
  frac_zero : (c k z : ℕ) → i < length s → is_digit (get_or s i 0) ≡ true → get_or s i 0 ≡ 48
      → frac_of n (c * 10 ^ z) (k + z) c k (drop i s) ≡ frac_of n (c * 10 ^ (z + 1)) (k + (z + 1)) c k (drop (i + 1) s)
  unfolding frac_of
  frac_zero c k z h e q =
      let p : c * 10 ^ (z + 1) ≡ c * 10 ^ z * 10 = ap (λ (w : ℕ). c * 10 ^ w) (add-one z) ∙ ap (λ (w : ℕ). c * w) (pow-suc 10 z) ∙ sym (mul_assoc c (10 ^ z) 10) in
      let r : k + (z + 1) ≡ suc (k + z) = omega arith in
      rw (p, r, add-one i, drop-cons s i 0, e, eq-eqb (get_or s i 0) 48 q)

  frac_one : (c k z p d : ℕ) → i < length s → is_digit (get_or s i 0) ≡ true → get_or s i 0 ≢ 48 → p ≡ 10 ^ (z + 1) → d ≡ get_or s i 0 - 48
      → frac_of n (c * 10 ^ z) (k + z) c k (drop i s) ≡ frac_of n ((c * p + d) * 10 ^ 0) (k + z + 1 + 0) (c * p + d) (k + z + 1) (drop (i + 1) s)
  unfolding frac_of
  frac_one c k z p d h e q pe de =
      let m : c * p + d ≡ c * 10 ^ z * 10 + (get_or s i 0 - 48) = omega (arith, ap (λ (w : ℕ). c * w) (pe ∙ ap (λ (w : ℕ). 10 ^ w) (add-one z) ∙ pow-suc 10 z) ∙ sym (mul_assoc c (10 ^ z) 10)) in
      let o : (c * p + d) * 10 ^ 0 ≡ c * 10 ^ z * 10 + (get_or s i 0 - 48) = omega arith in
      let r : k + z + 1 + 0 ≡ suc (k + z) = omega arith in
      let r' : k + z + 1 ≡ suc (k + z) = omega arith in
      rw (o, r, m, r', add-one i, drop-cons s i 0, e, ne_eqb (get_or s i 0) 48 q)

  pub whole_end : (a : ℕ) → length s ≤ i → whole_of n a (drop i s) ≡ found n a 0
  unfolding whole_of
  whole_end a h = rw (drop_of_length-le s h)

  pub whole_stop : (a : ℕ) → i < length s → is_digit (get_or s i 0) ≡ false → get_or s i 0 ≢ 46 → whole_of n a (drop i s) ≡ bad
  unfolding whole_of
  whole_stop a h e q = rw (drop-cons s i 0, e, ne_eqb (get_or s i 0) 46 q)

  pub whole_frac : (a : ℕ) → i < length s → is_digit (get_or s i 0) ≡ false → get_or s i 0 ≡ 46 → whole_of n a (drop i s) ≡ frac_of n a 0 a 0 (drop (i + 1) s)
  unfolding whole_of
  whole_frac a h e q = rw (add-one i, drop-cons s i 0, e, eq-eqb (get_or s i 0) 46 q)

  pub whole_go : (a d : ℕ) → i < length s → is_digit (get_or s i 0) ≡ true → d ≡ get_or s i 0 - 48 → whole_of n a (drop i s) ≡ whole_of n (a * 10 + d) (drop (i + 1) s)
  unfolding whole_of
  whole_go a d h e q = rw (q, add-one i, drop-cons s i 0, e)

-- ---- by the first byte of a text
pub signed_end : (n : Bool) (t : List ℕ) → length t ≡ 0 → signed_of n t ≡ bad
unfolding signed_of
signed_end n [] h = refl
signed_end n (x ∷ t) h = absurd (omega arith)

pub point_end : (n : Bool) (t : List ℕ) → length t ≡ 0 → point_of n t ≡ bad
unfolding point_of
point_end n [] h = refl
point_end n (x ∷ t) h = absurd (omega arith)

pub point_frac : (n : Bool) (t : List ℕ) → length t ≢ 0 → point_of n t ≡ frac_of n 0 0 0 0 t
unfolding point_of
point_frac n [] h = absurd (h refl)
point_frac n (x ∷ t) h = refl

module _ (n : Bool) (x : ℕ) (u : List ℕ) where
  whole_first : is_digit x ≡ true → signed_of n (x ∷ u) ≡ whole_of n 0 (x ∷ u)
  unfolding signed_of
  whole_first h = rw h

  stop_first : is_digit x ≡ false → x ≢ 46 → signed_of n (x ∷ u) ≡ bad
  unfolding signed_of
  stop_first h q = rw (h, ne_eqb x 46 q)

  point_first : is_digit x ≡ false → x ≡ 46 → signed_of n (x ∷ u) ≡ point_of n u
  unfolding signed_of
  point_first h q = rw (h, eq-eqb x 46 q)

  plus_first : x ≡ 43 → read_of (x ∷ u) ≡ signed_of false u
  unfolding read_of
  plus_first h = rw h

  minus_first : x ≡ 45 → read_of (x ∷ u) ≡ signed_of true u
  unfolding read_of
  minus_first h = rw h

  bare_first : x ≢ 43 → x ≢ 45 → read_of (x ∷ u) ≡ signed_of false (x ∷ u)
  unfolding read_of
  bare_first p q = rw (ne_eqb x 43 p, ne_eqb x 45 q)

  module _ (t : List ℕ) (e : t ≡ x ∷ u) where
    pub signed_whole : is_digit x ≡ true → signed_of n t ≡ whole_of n 0 t
    signed_whole h = subst (λ (l : List ℕ). signed_of n l ≡ whole_of n 0 l) (sym e) (whole_first h)

    pub signed_stop : is_digit x ≡ false → x ≢ 46 → signed_of n t ≡ bad
    signed_stop h q = ap (signed_of n) e ∙ stop_first h q

    pub signed_point : is_digit x ≡ false → x ≡ 46 → signed_of n t ≡ point_of n u
    signed_point h q = ap (signed_of n) e ∙ point_first h q

module _ (x : ℕ) (u t : List ℕ) (e : t ≡ x ∷ u) where
  pub read_plus : x ≡ 43 → read_of t ≡ signed_of false u
  read_plus h = ap read_of e ∙ plus_first false x u h

  pub read_minus : x ≡ 45 → read_of t ≡ signed_of true u
  read_minus h = ap read_of e ∙ minus_first false x u h

  pub read_bare : x ≢ 43 → x ≢ 45 → read_of t ≡ signed_of false t
  read_bare p q = subst (λ (l : List ℕ). read_of l ≡ signed_of false l) (sym e) (bare_first false x u p q)

-- ---- an answer so read is right
is_minus_lem : (g : Sign) → is_minus g ≡ true → g ≡ minus
is_minus_lem unsigned t = absurd (true≢false (sym t))
is_minus_lem plus t = absurd (true≢false (sym t))
is_minus_lem minus t = refl

refuse : (w t : List ℕ) → ((c k : ℕ) → Price t c k → ⊥) → (v : Value) → Form amt w t v → ⊥
refuse w t f v (Form.money r a) = f _ _ a

module _ (t : List ℕ) (n : Bool) (c k : ℕ) (e : read_of t ≡ found n c k) where
  other : ((n' : Bool) → n ≡ n' → k ≤ 5 → c < 10 ^ 18 → (n' ≡ true → c ≡ 0) → ⊥) → (c' k' : ℕ) → Price t c' k' → ⊥
  other f c' k' a =
      let q : found n c k ≡ found (is_minus a.spells.text.sign) c' k' = sym e ∙ complete t c' k' a.spells in
      let p : c ≡ c' = cc in
      let r : k ≡ k' = cc in
      let m : n ≡ is_minus a.spells.text.sign = cc in
      f (is_minus a.spells.text.sign) m (omega (arith, a.bounds.scale)) (omega (arith, a.bounds.coefficient)) (λ z. p ∙ a.sign (is_minus_lem a.spells.text.sign z))

  good : k ≤ 5 → c < 10 ^ 18 → (n ≡ true → c ≡ 0) → Price t c k
  good h j f =
      let w = sound t n c k e in
      record { spells = w.decimal; bounds = record { scale = h; coefficient = j; least = w.decimal.least }; sign = λ m. f (sym w.neg ∙ ap is_minus m) }

  right_found : FormedAny amt t (answer (found n c k))
  unfolding answer
  right_found w cw = by (leb k 5) (ltb c (10 ^ 18)) n (eqb c 0) refl refl refl refl
    where
      no : ((n' : Bool) → n ≡ n' → k ≤ 5 → c < 10 ^ 18 → (n' ≡ true → c ≡ 0) → ⊥) → Formed amt w t None
      no f = formless refl (refuse w t (other f))

      ok : Price t c k → Formed amt w t (Some (J.Amount c k))
      ok a = formed _ (Form.money cw a) refl

      by : (u v m z : Bool) → leb k 5 ≡ u → ltb c (10 ^ 18) ≡ v → n ≡ m → eqb c 0 ≡ z
          → Formed amt w t (cond u (cond v (cond (m && not z) None (Some (J.Amount c k))) None) None)
      by false v m z p q r y = no (λ n' o h j f. let x = leb-false k 5 p in omega arith)
      by true false m z p q r y = no (λ n' o h j f. let x = ltb-false c (10 ^ 18) q in omega arith)
      by true true false z p q r y = ok (good (leb-true k 5 p) (ltb-true c (10 ^ 18) q) (λ m. absurd (true≢false (sym m ∙ r))))
      by true true true true p q r y = ok (good (leb-true k 5 p) (ltb-true c (10 ^ 18) q) (λ m. eqb-true c 0 y))
      by true true true false p q r y = no (λ n' o h j f. eqb-false c 0 y (f (sym o ∙ r)))

pub right : (t : List ℕ) → FormedAny amt t (answer (read_of t))
right t = go (read_of t) refl
  where
    go : (w : Found) → read_of t ≡ w → FormedAny amt t (answer w)
    go bad e = λ w cw. subst (Formed amt w t) (sym answer_bad) (formless refl (refuse w t (λ c k a. let q = complete t c k a.spells in let z : ◌≡◌ {A = ℕ} 0 1 = cc in omega arith)))
    go (found n c k) e = right_found t n c k e

-- and it finds every amount
sign_fits : (g : Sign) (c : ℕ) → (g ≡ minus → c ≡ 0) → (is_minus g && not (eqb c 0)) ≡ false
sign_fits unsigned c f = refl
sign_fits plus c f = refl
sign_fits minus c f = rw (eq-eqb c 0 (f refl))

pub answer_of : (t : List ℕ) (c k : ℕ) → Price t c k → answer (read_of t) ≡ Some (J.Amount c k)
answer_of t c k a =
    ap answer (complete t c k a.spells) ∙ answer_good (is_minus a.spells.text.sign) c k a.bounds.coefficient a.bounds.scale
    ∙ ap (λ (b : Bool). cond b None (Some (J.Amount c k))) (sign_fits a.spells.text.sign c a.sign)

-- a is what is read from a place on
pub answered : (t : List ℕ) {a : Found} (r : Option Judged) → read_of t ≡ a → r ≡ answer a → FormedAny amt t r
answered t r p e w cw = subst (Formed amt w t) (sym (e ∙ ap answer (sym p))) (right t w cw)

-- ---- a product that stays below the limit, and one that does not
pub room : (c p : ℕ) → 10 ≤ p → c < 10 ^ 18 / p → c * p + p ≤ 10 ^ 18
room c p h k = omega (arith, (le-div_iff_mul-le {k = p} {x = suc c} {y = 10 ^ 18} (omega arith)).0 k)

pub enough : (z c p : ℕ) → z ≤ 4 → p ≡ 10 ^ (z + 1) → 10 ^ 18 / p ≤ c → 10 ^ 18 ≤ c * p
enough zero c p h e k = rw e (omega (arith, rw e at k))
enough (suc zero) c p h e k = rw e (omega (arith, rw e at k))
enough (suc (suc zero)) c p h e k = rw e (omega (arith, rw e at k))
enough (suc (suc (suc zero))) c p h e k = rw e (omega (arith, rw e at k))
enough (suc (suc (suc (suc zero)))) c p h e k = rw e (omega (arith, rw e at k))
enough (suc (suc (suc (suc (suc z))))) c p h e k = absurd (omega arith)

-- ---- the loop over the places after the point
pub record Places (s : List ℕ) (at : ℕ) (n : Bool) (whole i c k z : ℕ) : Type 0 where
  pub within : i ≤ length s
  pub zeros : z ≤ i
  pub small : c < 10 ^ 18
  pub places : k ≤ 5
  pub same : answer (frac_of n (c * 10 ^ z) (k + z) c k (drop i s)) ≡ answer (frac_of n whole 0 whole 0 (drop at s))

pub places_none : (s : List ℕ) (at : ℕ) (n : Bool) (whole : ℕ) → at ≤ length s → whole < 10 ^ 18 → Places s at n whole at whole 0 0
places_none s at n whole h k = let e : whole * 10 ^ 0 ≡ whole = omega arith in record { within = h; zeros = omega arith; small = k; places = omega arith; same = rw e }

module _ (s : List ℕ) (at : ℕ) (n : Bool) (whole i c k z : ℕ) (w : Places s at n whole i c k z) where
  pub places_end : length s ≤ i → answer (found n c k) ≡ answer (frac_of n whole 0 whole 0 (drop at s))
  places_end h = sym (ap answer (frac_end s i n (c * 10 ^ z) (k + z) c k h)) ∙ w.same

  pub places_stop : i < length s → is_digit (get_or s i 0) ≡ false → None ≡ answer (frac_of n whole 0 whole 0 (drop at s))
  places_stop h e = sym answer_bad ∙ sym (ap answer (frac_stop s i n (c * 10 ^ z) (k + z) c k h e)) ∙ w.same

  pub places_zero : i < length s → is_digit (get_or s i 0) ≡ true → get_or s i 0 ≡ 48 → Places s at n whole (i + 1) c k (z + 1)
  places_zero h e q = record { within = omega arith; zeros = omega (arith, w.zeros); small = w.small; places = w.places; same = sym (ap answer (frac_zero s i n c k z h e q)) ∙ w.same }

  pub places_one : (p d : ℕ) → i < length s → is_digit (get_or s i 0) ≡ true → get_or s i 0 ≢ 48 → p ≡ 10 ^ (z + 1) → d ≡ get_or s i 0 - 48 → c * p + d < 10 ^ 18 → k + z ≤ 4 → Places s at n whole (i + 1) (c * p + d) (k + z + 1) 0
  places_one p d h e q pe de b f = record { within = omega arith; zeros = omega arith; small = b; places = omega arith; same = sym (ap answer (frac_one s i n c k z p d h e q pe de)) ∙ w.same }

  pub places_over : (p : ℕ) → i < length s → is_digit (get_or s i 0) ≡ true → get_or s i 0 ≢ 48 → p ≡ 10 ^ (z + 1) → Over (c * p + (get_or s i 0 - 48)) (k + z + 1) → None ≡ answer (frac_of n whole 0 whole 0 (drop at s))
  places_over p h e q pe o =
      sym (frac_over n ((c * p + (get_or s i 0 - 48)) * 10 ^ 0) (k + z + 1 + 0) (c * p + (get_or s i 0 - 48)) (k + z + 1) (drop (i + 1) s) o (omega arith) (omega arith))
      ∙ sym (ap answer (frac_one s i n c k z p (get_or s i 0 - 48) h e q pe refl)) ∙ w.same

-- ---- the loop over the digits before the point
pub record Digits (s : List ℕ) (at : ℕ) (n : Bool) (i c : ℕ) : Type 0 where
  pub within : i ≤ length s
  pub small : c < 10 ^ 18
  pub same : answer (whole_of n c (drop i s)) ≡ answer (whole_of n 0 (drop at s))

module _ (s : List ℕ) (at : ℕ) (n : Bool) (i c : ℕ) (w : Digits s at n i c) where
  pub digits_end : length s ≤ i → answer (found n c 0) ≡ answer (whole_of n 0 (drop at s))
  digits_end h = sym (ap answer (whole_end s i n c h)) ∙ w.same

  pub digits_stop : i < length s → is_digit (get_or s i 0) ≡ false → get_or s i 0 ≢ 46 → None ≡ answer (whole_of n 0 (drop at s))
  digits_stop h e q = sym answer_bad ∙ sym (ap answer (whole_stop s i n c h e q)) ∙ w.same

  pub digits_point : i < length s → is_digit (get_or s i 0) ≡ false → get_or s i 0 ≡ 46 → answer (frac_of n c 0 c 0 (drop (i + 1) s)) ≡ answer (whole_of n 0 (drop at s))
  digits_point h e q = sym (ap answer (whole_frac s i n c h e q)) ∙ w.same

  pub digits_more : (d : ℕ) → i < length s → is_digit (get_or s i 0) ≡ true → d ≡ get_or s i 0 - 48 → c * 10 + d < 10 ^ 18 → Digits s at n (i + 1) (c * 10 + d)
  digits_more d h e q b = record { within = omega arith; small = b; same = sym (ap answer (whole_go s i n c d h e q)) ∙ w.same }

  pub digits_over : i < length s → is_digit (get_or s i 0) ≡ true → 10 ^ 18 / 10 ≤ c → None ≡ answer (whole_of n 0 (drop at s))
  digits_over h e o =
      sym (whole_over n (c * 10 + (get_or s i 0 - 48)) (drop (i + 1) s) (omega arith)) ∙ sym (ap answer (whole_go s i n c (get_or s i 0 - 48) h e refl)) ∙ w.same
