-- Amounts: reading finds exactly the number that a text writes. Assumes nothing.
use mathlib.Core.Path.{◌≡◌, refl, sym, ◌∙◌, ap, subst}
use mathlib.Core.Bool.{Bool, true, false, cond}
use mathlib.Core.List.{List, [], ◌∷◌, ◌++◌}
use mathlib.Core.Logic.{◌⊎◌, inl, inr, ◌≢◌}
use Prim.Native.Nat.{ℕ, zero, suc, ◌+◌, ◌*◌, ◌-◌, ◌^◌, ◌%◌, ◌≤◌, ◌<◌, zero-le, suc-le-suc}
use native.Mathlib.Nat.{pow-suc, eq_of_mul-eq-mul_right, one-le-pow, mul_assoc, mul_right_comm}
use native.Mathlib.Omega.{arith}
use lib.Dec.{eqb}
use lib.ListN.{length, length-append}
use borrow.Author.Tests.{ne_eqb, eqb-true, eqb-false}
use Rattle.text.specs.Bytes.{is_digit}
use Rattle.text.specs.Lists.{Each, All}
use Rattle.value.specs.types.Plain.{decimal_from}
use Rattle.value.specs.parts.Numeral.{Sign, unsigned, plus, minus, sign_text, Places, no_point, point, places_of, places_text, Numeral, Decimal, Smallest, decimal}
use Rattle.value.specs.mirror.Reading.{Found, bad, found, frac_of, whole_of, point_of, signed_of, read_of}
use Rattle.value.proofs.classes.Classes.{digit_range, Solid, solid_digit, each_all, each_append}
use Rattle.value.proofs.raw.Trim.{Dense}

-- ---- the smallest scale
abbrev pub Canon : ℕ → ℕ → Type 0
Canon c k = (k ≡ 0) ⊎ (c % 10 ≢ 0)

least_go : (c k j m : ℕ) → c % 10 ≢ 0 → m * 10 ^ k ≡ c * 10 ^ j → k ≤ j
least_go c zero j m h e = zero-le
least_go c (suc k) zero m h e =
    absurd (h (let p = pow-suc 10 k in
    let q : m * (10 ^ k * 10) ≡ m * 10 ^ k * 10 = sym (mul_assoc m (10 ^ k) 10) in
    let r : c ≡ m * 10 ^ k * 10 = omega (arith, sym e ∙ ap (λ (w : ℕ). m * w) p) in
    omega arith))
least_go c (suc k) (suc j) m h e =
    let p : m * 10 ^ k * 10 ≡ c * 10 ^ j * 10 = mul_assoc m (10 ^ k) 10 ∙ sym (ap (λ (w : ℕ). m * w) (pow-suc 10 k)) ∙ e ∙ ap (λ (w : ℕ). c * w) (pow-suc 10 j) ∙ sym (mul_assoc c (10 ^ j) 10) in
    suc-le-suc (least_go c k j m h (omega arith))

pub least : (c k : ℕ) → Canon c k → Smallest c k
least c k (inl e) m j p = omega arith
least c k (inr h) m j p = least_go c k j m h p

-- and back: a last zero could be left out
pub canon : (c k : ℕ) → Smallest c (suc k) → c % 10 ≢ 0
canon c k f z =
    let d = Prim.Native.Nat.◌/◌ c 10 in
    let e : c ≡ d * 10 = omega arith in
    let p : d * 10 ^ suc k ≡ c * 10 ^ k = ap (λ (w : ℕ). d * w) (pow-suc 10 k) ∙ sym (mul_assoc d (10 ^ k) 10) ∙ mul_right_comm d (10 ^ k) 10 ∙ ap (λ (w : ℕ). w * 10 ^ k) (sym e) in
    omega (arith, f d k p)

-- two smallest forms of one number are one
pub record Same (c k c' k' : ℕ) : Type 0 where
  pub coefficient : c ≡ c'
  pub scale : k ≡ k'

same_form : (a f c k c' k' : ℕ) → a * 10 ^ k ≡ c * 10 ^ f → a * 10 ^ k' ≡ c' * 10 ^ f → Smallest c k → Smallest c' k' → Same c k c' k'
same_form a f c k c' k' e e' l l' =
    let x : c' * 10 ^ k * 10 ^ f ≡ c * 10 ^ k' * 10 ^ f =
    mul_right_comm c' (10 ^ k) (10 ^ f) ∙ ap (λ (w : ℕ). w * 10 ^ k) (sym e') ∙ mul_right_comm a (10 ^ k') (10 ^ k)
    ∙ ap (λ (w : ℕ). w * 10 ^ k') e ∙ mul_right_comm c (10 ^ f) (10 ^ k') in
    let y : c' * 10 ^ k ≡ c * 10 ^ k' = eq_of_mul-eq-mul_right (10 ^ f) (one-le-pow f 10 (omega arith)) _ _ x in
    let p : k ≤ k' = l c' k' y in
    let q : k' ≤ k = l' c k (sym y) in
    let s : k ≡ k' = omega arith in
    record { coefficient = sym (eq_of_mul-eq-mul_right (10 ^ k) (one-le-pow k 10 (omega arith)) c' c (y ∙ ap (λ (w : ℕ). c * 10 ^ w) (sym s))); scale = s }

-- a place more
zero_place : (a f c k : ℕ) → a * 10 ^ k ≡ c * 10 ^ f → a * 10 * 10 ^ k ≡ c * 10 ^ suc f
zero_place a f c k e = mul_right_comm a 10 (10 ^ k) ∙ ap (λ (w : ℕ). w * 10) e ∙ mul_assoc c (10 ^ f) 10 ∙ ap (λ (w : ℕ). c * w) (sym (pow-suc 10 f))

last_digit : (a x : ℕ) → is_digit x ≡ true → x ≢ 48 → (a * 10 + (x - 48)) % 10 ≢ 0
last_digit a x d h = let r = digit_range x d in omega arith

number_append : (a : ℕ) (ds es : List ℕ) → decimal_from a (ds ++ es) ≡ decimal_from (decimal_from a ds) es
unfolding decimal_from
number_append a [] es = refl
number_append a (x ∷ ds) es = number_append (a * 10 + (x - 48)) ds es

-- ---- what is read of a well written text
record Ends (w : Found) (n : Bool) (a f : ℕ) : Type 0 where
  c : ℕ
  k : ℕ
  is : w ≡ found n c k
  same : a * 10 ^ k ≡ c * 10 ^ f
  canon : Canon c k

module _ (n : Bool) where
  frac_digit : (a f c k x : ℕ) (t : List ℕ) → is_digit x ≡ true → frac_of n a f c k (x ∷ t) ≡ cond (eqb x 48) (frac_of n (a * 10) (suc f) c k t) (frac_of n (a * 10 + (x - 48)) (suc f) (a * 10 + (x - 48)) (suc f) t)
  unfolding frac_of
  frac_digit a f c k x t e = rw e

  frac_end : (a f c k : ℕ) → frac_of n a f c k [] ≡ found n c k
  unfolding frac_of
  frac_end a f c k = refl

  frac_run : (a f c k : ℕ) (ds : List ℕ) → All is_digit ds → a * 10 ^ k ≡ c * 10 ^ f → Canon c k → Ends (frac_of n a f c k ds) n (decimal_from a ds) (f + length ds)
  unfolding decimal_from
  frac_run a f c k [] h e m = let z : f + 0 ≡ f = omega arith in record { c = c; k = k; is = frac_end a f c k; same = rw z e; canon = m }
  frac_run a f c k (x ∷ ds) h e m =
      let l : suc f + length ds ≡ f + suc (length ds) = omega arith in
      go l (eqb x 48) refl (λ a' c' k'. frac_run a' (suc f) c' k' ds h.1)
    where
      go : suc f + length ds ≡ f + suc (length ds) → (u : Bool) → eqb x 48 ≡ u
          → ((a' c' k' : ℕ) → a' * 10 ^ k' ≡ c' * 10 ^ suc f → Canon c' k' → Ends (frac_of n a' (suc f) c' k' ds) n (decimal_from a' ds) (suc f + length ds))
          → Ends (frac_of n a f c k (x ∷ ds)) n (decimal_from (a * 10 + (x - 48)) ds) (f + suc (length ds))
      go l true q r =
          let x0 : a * 10 + (x - 48) ≡ a * 10 = let w = eqb-true x 48 q in omega arith in
          let v = r (a * 10) c k (zero_place a f c k e) m in
          rw (← l, x0) (record { c = v.c; k = v.k; is = frac_digit a f c k x ds h.0 ∙ rw q v.is; same = v.same; canon = v.canon })
      go l false q r =
          let v = r (a * 10 + (x - 48)) (a * 10 + (x - 48)) (suc f) refl (inr (last_digit a x h.0 (eqb-false x 48 q))) in
          rw (← l) (record { c = v.c; k = v.k; is = frac_digit a f c k x ds h.0 ∙ rw q v.is; same = v.same; canon = v.canon })

  whole_done : (a : ℕ) (fr : Places) → All is_digit (places_of fr) → Ends (whole_of n a (places_text fr)) n (decimal_from a (places_of fr)) (length (places_of fr))
  unfolding whole_of decimal_from is_digit
  whole_done a no_point h = record { c = a; k = 0; is = refl; same = refl; canon = inl refl }
  whole_done a (point ds) h =
      let z : 0 + length ds ≡ length ds = omega arith in
      rw (← z) (frac_run a 0 a 0 ds h refl (inl refl))

  whole_run : (a : ℕ) (ds : List ℕ) (fr : Places) → All is_digit ds → All is_digit (places_of fr) → Ends (whole_of n a (ds ++ places_text fr)) n (decimal_from (decimal_from a ds) (places_of fr)) (length (places_of fr))
  unfolding whole_of decimal_from
  whole_run a [] fr d h = whole_done a fr h
  whole_run a (x ∷ ds) fr d h = rw d.0 (whole_run (a * 10 + (x - 48)) ds fr d.1 h)

signed_run : (n : Bool) (ds : List ℕ) (fr : Places) → All is_digit ds → All is_digit (places_of fr) → 1 ≤ length (ds ++ places_of fr)
    → Ends (signed_of n (ds ++ places_text fr)) n (decimal (ds ++ places_of fr)) (length (places_of fr))
unfolding signed_of point_of is_digit
signed_run n (x ∷ ds) fr d h s = rw (d.0, number_append 0 (x ∷ ds) (places_of fr)) (whole_run n 0 (x ∷ ds) fr d h)
signed_run n [] no_point d h s = absurd (omega arith)
signed_run n [] (point []) d h s = absurd (omega arith)
signed_run n [] (point (y ∷ ys)) d h s =
    let z : 0 + length (y ∷ ys) ≡ length (y ∷ ys) = omega arith in
    rw (← z) (frac_run n 0 0 0 0 (y ∷ ys) h refl (inl refl))

abbrev pub is_minus : Sign → Bool
is_minus unsigned = false
is_minus plus = false
is_minus minus = true

read_first : (x : ℕ) (t : List ℕ) → 46 ≤ x → read_of (x ∷ t) ≡ signed_of false (x ∷ t)
unfolding read_of
read_first x t h = rw (ne_eqb x 43 (omega arith), ne_eqb x 45 (omega arith))

read_unsigned : (ds : List ℕ) (fr : Places) → All is_digit ds → 1 ≤ length (ds ++ places_of fr) → read_of (ds ++ places_text fr) ≡ signed_of false (ds ++ places_text fr)
read_unsigned (x ∷ ds) fr d s = read_first x (ds ++ places_text fr) (let r = digit_range x d.0 in omega arith)
read_unsigned [] no_point d s = absurd (omega arith)
read_unsigned [] (point ys) d s = read_first 46 ys (omega arith)

read_run : (sg : Sign) (ds : List ℕ) (fr : Places) → All is_digit ds → All is_digit (places_of fr) → 1 ≤ length (ds ++ places_of fr)
    → Ends (read_of (sign_text sg ++ (ds ++ places_text fr))) (is_minus sg) (decimal (ds ++ places_of fr)) (length (places_of fr))
unfolding read_of
read_run unsigned ds fr d h s = rw (read_unsigned ds fr d s) (signed_run false ds fr d h s)
read_run plus ds fr d h s = signed_run false ds fr d h s
read_run minus ds fr d h s = signed_run true ds fr d h s

-- a text is read as every number that it writes
pub complete : (t : List ℕ) (c k : ℕ) (d : Decimal t c k) → read_of t ≡ found (is_minus d.text.sign) c k
complete t c k d =
    let w = d.text in
    let v = read_run w.sign w.whole w.places w.digits.0 w.digits.1 w.some in
    let e = same_form _ _ v.c v.k c k v.same d.same (least v.c v.k v.canon) d.least in
    ap read_of w.is ∙ v.is ∙ ap (λ (x : ℕ). found (is_minus w.sign) x v.k) e.coefficient ∙ ap (found (is_minus w.sign) c) e.scale

-- ---- and only as those
no_found : {A : Type 0} (n : Bool) (c k : ℕ) → bad ≡ found n c k → A
no_found n c k e = absurd (let z : ◌≡◌ {A = ℕ} 0 1 = cc in omega arith)

record Frac (n : Bool) (a f : ℕ) (s : List ℕ) (n' : Bool) (c' k' : ℕ) : Type 0 where
  digits : All is_digit s
  neg : n ≡ n'
  same : decimal_from a s * 10 ^ k' ≡ c' * 10 ^ (f + length s)
  canon : Canon c' k'

module _ (n n' : Bool) (c' k' : ℕ) where
  frac_more : (a a' f x : ℕ) (t : List ℕ) → is_digit x ≡ true → a' ≡ a * 10 + (x - 48) → Frac n a' (suc f) t n' c' k' → Frac n a f (x ∷ t) n' c' k'
  unfolding decimal_from
  frac_more a a' f x t p i v =
      let l : suc f + length t ≡ f + suc (length t) = omega arith in
      record { digits = (p, v.digits); neg = v.neg; same = rw (← l, ← i) v.same; canon = v.canon }

  frac_sound : (a f c k : ℕ) (s : List ℕ) → a * 10 ^ k ≡ c * 10 ^ f → Canon c k → frac_of n a f c k s ≡ found n' c' k' → Frac n a f s n' c' k'
  unfolding frac_of decimal_from
  frac_sound a f c k [] e m q =
      let p : c ≡ c' = cc in
      let r : k ≡ k' = cc in
      let z : f + 0 ≡ f = omega arith in
      record { digits = tt; neg = cc; same = rw (← p, ← r, z) e; canon = rw (← p, ← r) m }
  frac_sound a f c k (x ∷ t) e m q = go (is_digit x) (eqb x 48) refl refl q (λ a' c'' k''. frac_sound a' (suc f) c'' k'' t)
    where
      go : (u v : Bool) → is_digit x ≡ u → eqb x 48 ≡ v
          → cond u (cond v (frac_of n (a * 10) (suc f) c k t) (frac_of n (a * 10 + (x - 48)) (suc f) (a * 10 + (x - 48)) (suc f) t)) bad ≡ found n' c' k'
          → ((a' c'' k'' : ℕ) → a' * 10 ^ k'' ≡ c'' * 10 ^ suc f → Canon c'' k'' → frac_of n a' (suc f) c'' k'' t ≡ found n' c' k' → Frac n a' (suc f) t n' c' k') → Frac n a f (x ∷ t) n' c' k'
      go true true p o q r = frac_more a (a * 10) f x t p (let w = eqb-true x 48 o in omega arith) (r (a * 10) c k (zero_place a f c k e) m q)
      go true false p o q r = frac_more a (a * 10 + (x - 48)) f x t p refl (r (a * 10 + (x - 48)) (a * 10 + (x - 48)) (suc f) refl (inr (last_digit a x p (eqb-false x 48 o))) q)
      go false v p o q r = no_found n' c' k' q

-- digits, a point or none and its digits: the digits before were read as a
record Whole (n : Bool) (a : ℕ) (s : List ℕ) (n' : Bool) (c' k' : ℕ) : Type 0 where
  ds : List ℕ
  fr : Places
  is : s ≡ ds ++ places_text fr
  digits : All is_digit ds
  places : All is_digit (places_of fr)
  neg : n ≡ n'
  same : decimal_from (decimal_from a ds) (places_of fr) * 10 ^ k' ≡ c' * 10 ^ length (places_of fr)
  canon : Canon c' k'

module _ (n n' : Bool) (c' k' : ℕ) where
  whole_none : (a : ℕ) → found n a 0 ≡ found n' c' k' → Whole n a [] n' c' k'
  unfolding decimal_from
  whole_none a q =
      let p : a ≡ c' = cc in
      let r : 0 ≡ k' = cc in
      record { ds = []; fr = no_point; is = refl; digits = tt; places = tt; neg = cc; same = rw (← p, ← r); canon = inl (sym r) }

  whole_point : (a : ℕ) (t : List ℕ) → frac_of n a 0 a 0 t ≡ found n' c' k' → Whole n a (46 ∷ t) n' c' k'
  unfolding decimal_from
  whole_point a t q =
      let v = frac_sound n n' c' k' a 0 a 0 t refl (inl refl) q in
      let z : 0 + length t ≡ length t = omega arith in
      record { ds = []; fr = point t; is = refl; digits = tt; places = v.digits; neg = v.neg; same = rw z at v.same; canon = v.canon }

  whole_sound : (a : ℕ) (s : List ℕ) → whole_of n a s ≡ found n' c' k' → Whole n a s n' c' k'
  unfolding whole_of decimal_from
  whole_sound a [] q = whole_none a q
  whole_sound a (x ∷ t) q = go (is_digit x) (eqb x 46) refl refl q (whole_sound (a * 10 + (x - 48)) t)
    where
      go : (u v : Bool) → is_digit x ≡ u → eqb x 46 ≡ v
          → cond u (whole_of n (a * 10 + (x - 48)) t) (cond v (frac_of n a 0 a 0 t) bad) ≡ found n' c' k'
          → (whole_of n (a * 10 + (x - 48)) t ≡ found n' c' k' → Whole n (a * 10 + (x - 48)) t n' c' k') → Whole n a (x ∷ t) n' c' k'
      go true v p o q r =
          let w = r q in
          record { ds = x ∷ w.ds; fr = w.fr; is = ap (λ (u : List ℕ). x ∷ u) w.is; digits = (p, w.digits); places = w.places; neg = w.neg; same = w.same; canon = w.canon }
      go false true p o q r = rw (eqb-true x 46 o) (whole_point a t q)
      go false false p o q r = no_found n' c' k' q

-- a sign was read, n where it is minus
record Signed (n : Bool) (s : List ℕ) (n' : Bool) (c' k' : ℕ) : Type 0 where
  ds : List ℕ
  fr : Places
  is : s ≡ ds ++ places_text fr
  digits : All is_digit ds
  places : All is_digit (places_of fr)
  some : 1 ≤ length (ds ++ places_of fr)
  neg : n ≡ n'
  same : decimal (ds ++ places_of fr) * 10 ^ k' ≡ c' * 10 ^ length (places_of fr)
  canon : Canon c' k'

-- at least the digit that a list begins with
begins : (x : ℕ) (t u : List ℕ) (fr : Places) → is_digit x ≡ true → x ∷ t ≡ u ++ places_text fr → 1 ≤ length (u ++ places_of fr)
begins x t (y ∷ u) fr d e = suc-le-suc zero-le
begins x t [] (point (y ∷ ys)) d e = suc-le-suc zero-le
begins x t [] (point []) d e = let z : x ≡ 46 = cc in let r = digit_range x d in absurd (omega arith)
begins x t [] no_point d e = absurd (let z : ◌≡◌ {A = ℕ} 0 1 = cc in omega arith)

module _ (n n' : Bool) (c' k' : ℕ) where
  signed_point : (t : List ℕ) → point_of n t ≡ found n' c' k' → Signed n (46 ∷ t) n' c' k'
  unfolding point_of
  signed_point [] q = no_found n' c' k' q
  signed_point (x ∷ t) q =
      let v = frac_sound n n' c' k' 0 0 0 0 (x ∷ t) refl (inl refl) q in
      let z : 0 + length (x ∷ t) ≡ length (x ∷ t) = omega arith in
      record { ds = []; fr = point (x ∷ t); is = refl; digits = tt; places = v.digits; some = suc-le-suc zero-le; neg = v.neg; same = rw z at v.same; canon = v.canon }

  signed_sound : (s : List ℕ) → signed_of n s ≡ found n' c' k' → Signed n s n' c' k'
  unfolding signed_of
  signed_sound [] q = no_found n' c' k' q
  signed_sound (x ∷ t) q = go (is_digit x) (eqb x 46) refl refl q
    where
      go : (u v : Bool) → is_digit x ≡ u → eqb x 46 ≡ v → cond u (whole_of n 0 (x ∷ t)) (cond v (point_of n t) bad) ≡ found n' c' k' → Signed n (x ∷ t) n' c' k'
      go true v p o q =
          let w = whole_sound n n' c' k' 0 (x ∷ t) q in
          record { ds = w.ds; fr = w.fr; is = w.is; digits = w.digits; places = w.places; some = begins x t w.ds w.fr p w.is; neg = w.neg; same = rw (number_append 0 w.ds (places_of w.fr)) w.same; canon = w.canon }
      go false true p o q = rw (eqb-true x 46 o) (signed_point t q)
      go false false p o q = no_found n' c' k' q

pub record Reads (s : List ℕ) (n : Bool) (c k : ℕ) : Type 0 where
  pub decimal : Decimal s c k
  pub neg : is_minus decimal.text.sign ≡ n

-- from the parts after a sign
made : (sg : Sign) (s : List ℕ) (n : Bool) (c k : ℕ) → Signed (is_minus sg) s n c k → Reads (sign_text sg ++ s) n c k
made sg s n c k v =
    record {
      decimal = record {
        text = record { sign = sg; whole = v.ds; places = v.fr; is = ap (λ (u : List ℕ). sign_text sg ++ u) v.is; digits = (v.digits, v.places); some = v.some };
        same = v.same;
        least = least c k v.canon;
      };
      neg = v.neg;
    }

pub sound : (s : List ℕ) (n : Bool) (c k : ℕ) → read_of s ≡ found n c k → Reads s n c k
unfolding read_of
sound [] n c k q = no_found n c k q
sound (x ∷ t) n c k q = go (eqb x 43) (eqb x 45) refl refl q
  where
    go : (v w : Bool) → eqb x 43 ≡ v → eqb x 45 ≡ w → cond v (signed_of false t) (cond w (signed_of true t) (signed_of false (x ∷ t))) ≡ found n c k → Reads (x ∷ t) n c k
    go true w o m q = rw (eqb-true x 43 o) (made plus t n c k (signed_sound false n c k t q))
    go false true o m q = rw (eqb-true x 45 m) (made minus t n c k (signed_sound true n c k t q))
    go false false o m q = made unsigned (x ∷ t) n c k (signed_sound false n c k (x ∷ t) q)

-- ---- its characters
sign_solid : (g : Sign) → Each Solid (sign_text g)
sign_solid unsigned = tt
sign_solid plus = omega arith
sign_solid minus = omega arith

places_solid : (f : Places) → All is_digit (places_of f) → Each Solid (places_text f)
places_solid no_point h = tt
places_solid (point ds) h = (omega arith, each_all is_digit Solid solid_digit ds h)

places_long : (f : Places) → length (places_of f) ≤ length (places_text f)
places_long no_point = omega arith
places_long (point ds) = omega arith

pub written_dense : (t : List ℕ) → Numeral t → Dense t
written_dense t w =
    record {
      solid = subst (λ (l : List ℕ). Each Solid l) (sym w.is)
          (each_append Solid (sign_text w.sign) _ (sign_solid w.sign)
          (each_append Solid w.whole _ (each_all is_digit Solid solid_digit w.whole w.digits.0) (places_solid w.places w.digits.1)));
      some = omega (arith, w.some, ap length w.is, length-append (sign_text w.sign) (w.whole ++ places_text w.places), length-append w.whole (places_text w.places), length-append w.whole (places_of w.places), places_long w.places);
    }

-- ---- digits alone
pub digits_dense : (t : List ℕ) → All is_digit t → 1 ≤ length t → Dense t
digits_dense t h s = record { solid = each_all is_digit Solid solid_digit t h; some = s }

pub decimal_below : (a m : ℕ) (t : List ℕ) → All is_digit t → a < m → decimal_from a t < m * 10 ^ length t
unfolding decimal_from
decimal_below a m [] h k = omega arith
decimal_below a m (x ∷ t) h k =
    let r = digit_range x h.0 in
    let p : m * 10 ^ suc (length t) ≡ m * 10 * 10 ^ length t = ap (λ (w : ℕ). m * w) (pow-suc 10 (length t)) ∙ sym (mul_assoc m (10 ^ length t) 10) ∙ mul_right_comm m (10 ^ length t) 10 in
    rw p (decimal_below (a * 10 + (x - 48)) (m * 10) t h.1 (omega arith))
