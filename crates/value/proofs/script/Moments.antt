-- Days and moments, made of numbers and signs that are put one after the other. Assumes nothing.
use mathlib.Core.Path.{◌≡◌, refl, sym, ◌∙◌, ap}
use mathlib.Core.Logic.{◌≢◌}
use mathlib.Core.Bool.{Bool, true, false, cond}
use mathlib.Core.List.{List, [], ◌∷◌, ◌++◌}
use Prim.Native.Nat.{ℕ, ◌+◌, ◌-◌, ◌/◌, ◌%◌, ◌≤◌, ◌<◌}
use native.Mathlib.Nat.{zero-add}
use native.Mathlib.Omega.{arith}
use lib.Dec.{eqb, ltb}
use lib.ListN.{length, get_or, take, drop, length-append}
use lib.Seq.{slice, take_all}
use borrow.Author.Tests.{eq-eqb, ne_eqb, lt-ltb, le-ltb}
use Rattle.text.specs.Bytes.{ascii}
use Rattle.text.specs.Digits.{padded}
use Rattle.text.specs.Numbers.{number}
use Rattle.text.specs.Pasting.{pasted}
use Rattle.text.specs.Puts.{Puts}
use Rattle.text.proofs.Digits.{length_padded}
use Rattle.text.proofs.Pasting.{length_pasted, slice_pasted, pasted_none}
use Rattle.text.proofs.Puts.{puts_then}
use Rattle.list.specs.Listing.{dtm}
use Rattle.value.specs.types.Day.{day_text}
use Rattle.value.specs.types.Moment.{clock_text, hours_text}
use Rattle.value.specs.parts.Former.{no_fraction, decimals, figures, fraction_text, zulu, ahead, behind, zone_text}
use Rattle.value.specs.Value.{moment}
use Rattle.value.specs.script.Script.{fraction_for, zone_for, script_of}
use Rattle.value.proofs.dates.Texts.{all_of}
use Rattle.value.specs.mirror.Stored.{fraction_of, zone_of, three_raw, places_raw, fraction_raw, offset_raw, zone_raw, day_in, clock_in, moment_in}

-- ---- the text that is written, by the parts that the code goes by

fraction_for_lem : (u : ℕ) (t : List ℕ) → fraction_for u ++ t ≡ fraction_text (fraction_of u) t
unfolding fraction_for fraction_of
fraction_for_lem u t = go (eqb u 0) (eqb (u % 100000) 0) (eqb (u % 10000) 0) (eqb (u % 1000) 0)
  where
    point : (k n : ℕ) → 46 ∷ (padded k n ++ t) ≡ 46 ∷ figures k n t
    point k n = ap (λ (l : List ℕ). 46 ∷ l) (all_of k n t)

    go : (a b c d : Bool)
        → cond a [] (46 ∷ cond b (padded 1 (u / 100000)) (cond c (padded 2 (u / 10000)) (cond d (padded 3 (u / 1000)) (padded 6 u)))) ++ t
        ≡ fraction_text (cond a no_fraction (cond b (decimals 1 (u / 100000)) (cond c (decimals 2 (u / 10000)) (cond d (decimals 3 (u / 1000)) (decimals 6 u))))) t
    go true b c d = refl
    go false true c d = point 1 (u / 100000)
    go false false true d = point 2 (u / 10000)
    go false false false true = point 3 (u / 1000)
    go false false false false = point 6 u

zone_for_lem : (z : ℕ) → zone_for z ≡ zone_text (zone_of z) []
zone_for_lem z = go (eqb z 840) (ltb z 840)
  where
    go : (a b : Bool) → cond a (ascii "Z") (cond b (45 ∷ hours_text (840 - z)) (43 ∷ hours_text (z - 840)))
        ≡ zone_text (cond a zulu (cond b (behind ((840 - z) / 60) ((840 - z) % 60)) (ahead ((z - 840) / 60) ((z - 840) % 60)))) []
    go true b = refl
    go false true = refl
    go false false = refl

pub script_moment : (y mo d h mi s u z : ℕ) → script_of dtm (moment y mo d h mi s u z) ≡ day_text y mo d (84 ∷ clock_text h mi s (fraction_text (fraction_of u) (zone_text (zone_of z) [])))
script_moment y mo d h mi s u z = ap (λ (l : List ℕ). day_text y mo d (84 ∷ clock_text h mi s l)) (fraction_for_lem u (zone_for z) ∙ ap (fraction_text (fraction_of u)) (zone_for_lem z))

-- ---- laid

laid : (d : List ℕ) (at : ℕ) (bs : List ℕ) (r : ℕ) (d' : List ℕ) → r ≡ at + length bs → d' ≡ pasted d at bs → Puts d at bs r d'
laid d at bs r d' e f = record { behind = e; long = ap length f ∙ length_pasted d at bs; is = λ h. f }

digits_laid : (d : List ℕ) (at k n r : ℕ) (d' : List ℕ) → r ≡ at + k → d' ≡ pasted d at (padded k n) → Puts d at (padded k n) r d'
digits_laid d at k n r d' e f = laid d at (padded k n) r d' (omega (arith, length_padded k n)) f

-- a sign of one byte
module _ (sign : List ℕ) (one : length sign ≡ 1) where
  whole : slice 0 1 sign ≡ sign
  whole = take_all 1 sign (omega arith)

  sign_laid : (d : List ℕ) (at r : ℕ) (d' : List ℕ) → r ≡ at + 1 → d' ≡ pasted d at (slice 0 1 sign) → Puts d at sign r d'
  sign_laid d at r d' e f = laid d at sign r d' (omega arith) (f ∙ ap (pasted d at) whole)

  -- three numbers
  module _ (w a b c : ℕ) where
    pub three_long : length (three_raw w a sign b c) ≡ w + 6
    unfolding three_raw
    three_long = simp length-append (omega (arith, length_padded w a, length_padded 2 b, length_padded 2 c))

    pub three_put : (d : List ℕ) (at : ℕ) (d₁ d₂ d₃ d₄ d₅ : List ℕ) → at + (w + 6) ≤ length d
        → d₁ ≡ pasted d at (padded w a) → d₂ ≡ pasted d₁ (at + w) (slice 0 1 sign) → d₃ ≡ pasted d₂ (at + w + 1) (padded 2 b)
        → d₄ ≡ pasted d₃ (at + w + 3) (slice 0 1 sign) → d₅ ≡ pasted d₄ (at + w + 4) (padded 2 c)
        → d₅ ≡ pasted d at (three_raw w a sign b c)
    unfolding three_raw
    three_put d at d₁ d₂ d₃ d₄ d₅ h e₁ e₂ e₃ e₄ e₅ =
        let p₅ = digits_laid d₄ (at + w + 4) 2 c (at + w + 6) d₅ (omega arith) e₅ in
        let p₄ = puts_then _ _ _ _ _ _ _ _ (sign_laid d₃ (at + w + 3) (at + w + 4) d₄ (omega arith) e₄) p₅ in
        let p₃ = puts_then _ _ _ _ _ _ _ _ (digits_laid d₂ (at + w + 1) 2 b (at + w + 3) d₃ (omega arith) e₃) p₄ in
        let p₂ = puts_then _ _ _ _ _ _ _ _ (sign_laid d₁ (at + w) (at + w + 1) d₂ (omega arith) e₂) p₃ in
        let p₁ = puts_then _ _ _ _ _ _ _ _ (digits_laid d at w a (at + w) d₁ (omega arith) e₁) p₂ in
        p₁.is (omega (arith, three_long))

  -- an offset
  module _ (m : ℕ) where
    pub offset_long : length (offset_raw sign m) ≡ 6
    unfolding offset_raw
    offset_long = simp length-append (omega (arith, length_padded 2 (m / 60), length_padded 2 (m % 60)))

    pub offset_put : (d : List ℕ) (at : ℕ) (d₁ d₂ d₃ d₄ : List ℕ) → at + 6 ≤ length d
        → d₁ ≡ pasted d at (slice 0 1 sign) → d₂ ≡ pasted d₁ (at + 1) (padded 2 (m / 60))
        → d₃ ≡ pasted d₂ (at + 3) (58 ∷ []) → d₄ ≡ pasted d₃ (at + 4) (padded 2 (m % 60))
        → d₄ ≡ pasted d at (offset_raw sign m)
    unfolding offset_raw
    offset_put d at d₁ d₂ d₃ d₄ h e₁ e₂ e₃ e₄ =
        let p₄ = digits_laid d₃ (at + 4) 2 (m % 60) (at + 6) d₄ (omega arith) e₄ in
        let p₃ = puts_then _ _ _ _ _ _ _ _ (laid d₂ (at + 3) (58 ∷ []) (at + 4) d₃ (omega arith) e₃) p₄ in
        let p₂ = puts_then _ _ _ _ _ _ _ _ (digits_laid d₁ (at + 1) 2 (m / 60) (at + 3) d₂ (omega arith) e₂) p₃ in
        let p₁ = puts_then _ _ _ _ _ _ _ _ (sign_laid d at (at + 1) d₁ (omega arith) e₁) p₂ in
        p₁.is (omega (arith, offset_long))

-- a fraction: which one it is, by the tests
pub none_of : (u : ℕ) → u ≡ 0 → fraction_of u ≡ no_fraction
unfolding fraction_of
none_of u e = ap fraction_of e

pub one_of : (u : ℕ) → u ≢ 0 → u % 100000 ≡ 0 → fraction_of u ≡ decimals 1 (u / 100000)
unfolding fraction_of
one_of u z e = rw (ne_eqb u 0 z, eq-eqb (u % 100000) 0 e) refl

pub two_of : (u : ℕ) → u ≢ 0 → u % 100000 ≢ 0 → u % 10000 ≡ 0 → fraction_of u ≡ decimals 2 (u / 10000)
unfolding fraction_of
two_of u z a e = rw (ne_eqb u 0 z, ne_eqb (u % 100000) 0 a, eq-eqb (u % 10000) 0 e) refl

pub three_of : (u : ℕ) → u ≢ 0 → u % 100000 ≢ 0 → u % 10000 ≢ 0 → u % 1000 ≡ 0 → fraction_of u ≡ decimals 3 (u / 1000)
unfolding fraction_of
three_of u z a b e = rw (ne_eqb u 0 z, ne_eqb (u % 100000) 0 a, ne_eqb (u % 10000) 0 b, eq-eqb (u % 1000) 0 e) refl

pub six_of : (u : ℕ) → u ≢ 0 → u % 100000 ≢ 0 → u % 10000 ≢ 0 → u % 1000 ≢ 0 → fraction_of u ≡ decimals 6 u
unfolding fraction_of
six_of u z a b e = rw (ne_eqb u 0 z, ne_eqb (u % 100000) 0 a, ne_eqb (u % 10000) 0 b, ne_eqb (u % 1000) 0 e) refl

-- and what is written for it: nothing, or a point and digits
module _ (u : ℕ) (d : List ℕ) (at : ℕ) where
  pub fraction_none : u ≡ 0 → (at ≡ at + length (fraction_raw u)) × ((at ≤ at + 7) × (d ≡ pasted d at (fraction_raw u)))
  unfolding fraction_raw
  fraction_none e =
      let f : fraction_raw u ≡ [] = ap places_raw (none_of u e) in
      (omega (arith, ap length f), (omega arith, sym (pasted_none d at) ∙ ap (pasted d at) (sym f)))

  pub fraction_put : (k n r : ℕ) (d' : List ℕ) → fraction_of u ≡ decimals k n → k ≤ 6 → (r ≡ at + (1 + k)) × (d' ≡ pasted d at (46 ∷ padded k n))
      → (r ≡ at + length (fraction_raw u)) × ((r ≤ at + 7) × (d' ≡ pasted d at (fraction_raw u)))
  unfolding fraction_raw
  fraction_put k n r d' e h w =
      let f : fraction_raw u ≡ 46 ∷ padded k n = ap places_raw e in
      (omega (arith, ap length f, length_padded k n, w.0), (omega (arith, w.0), w.1 ∙ ap (pasted d at) (sym f)))

-- a point and digits
module _ (d : List ℕ) (at : ℕ) where
  pub places_put : (k n : ℕ) (d₁ d₂ : List ℕ) → at + (1 + k) ≤ length d → d₁ ≡ pasted d at (46 ∷ []) → d₂ ≡ pasted d₁ (at + 1) (padded k n) → d₂ ≡ pasted d at (46 ∷ padded k n)
  places_put k n d₁ d₂ h e₁ e₂ =
      (puts_then _ _ _ _ _ _ _ _ (laid d at (46 ∷ []) (at + 1) d₁ (omega arith) e₁) (digits_laid d₁ (at + 1) k n (at + (1 + k)) d₂ (omega arith) e₂)).is (omega (arith, length_padded k n))

-- a zone
pub zone_zero : (z : ℕ) → z ≡ 840 → zone_raw z ≡ 90 ∷ []
unfolding zone_raw
zone_zero z e = ap zone_raw e

pub zone_behind : (z : ℕ) → z < 840 → zone_raw z ≡ offset_raw (ascii "-") (840 - z)
unfolding zone_raw
zone_behind z h = rw (ne_eqb z 840 (λ e. omega arith), lt-ltb z 840 h)

pub zone_ahead : (z : ℕ) → z ≢ 840 → 840 ≤ z → zone_raw z ≡ offset_raw (ascii "+") (z - 840)
unfolding zone_raw
zone_ahead z n h = rw (ne_eqb z 840 n, le-ltb z 840 h)

-- a day, a time of day
pub day_long : (b : List ℕ) → length (day_in b) ≡ 10
unfolding day_in
day_long b = three_long (ascii "-") refl 4 (number (take 2 b)) (get_or b 2 0) (get_or b 3 0)

pub clock_long : (b : List ℕ) → length (clock_in b) ≡ 8
unfolding clock_in
clock_long b = three_long (ascii ":") refl 2 (get_or b 4 0) (get_or b 5 0) (get_or b 6 0)

pub day_put : (b d d₁ : List ℕ) (y mo da : ℕ) → y ≡ number (take 2 b) → mo ≡ get_or b 2 0 → da ≡ get_or b 3 0
    → d₁ ≡ pasted d 0 (three_raw 4 y (ascii "-") mo da) → d₁ ≡ pasted d 0 (day_in b)
unfolding day_in
day_put b d d₁ y mo da ey em ed e = e ∙ rw (ey, em, ed) refl

pub clock_put : (b d d₁ d₂ : List ℕ) (h mi s : ℕ) → h ≡ get_or b 4 0 → mi ≡ get_or b 5 0 → s ≡ get_or b 6 0 → 19 ≤ length d
    → d₁ ≡ pasted d 10 (84 ∷ []) → d₂ ≡ pasted d₁ 11 (three_raw 2 h (ascii ":") mi s) → d₂ ≡ pasted d 10 (84 ∷ clock_in b)
unfolding clock_in
clock_put b d d₁ d₂ h mi s eh em es l e₁ e₂ =
    let c : d₂ ≡ pasted d₁ 11 (clock_in b) = e₂ ∙ rw (eh, em, es) refl in
    (puts_then _ _ _ _ _ _ _ _ (laid d 10 (84 ∷ []) 11 d₁ refl e₁) (laid d₁ 11 (clock_in b) 19 d₂ (omega (arith, clock_long b)) c)
    ).is (omega (arith, clock_long b))

-- what was written from the start of a buffer on, taken out again
pub taken : (d vs : List ℕ) (n : ℕ) → n ≡ length vs → n ≤ length d → slice 0 n (pasted d 0 vs) ≡ vs
taken d vs n e h = ap (λ (k : ℕ). slice 0 k (pasted d 0 vs)) (e ∙ sym (zero-add (length vs))) ∙ slice_pasted d 0 vs (omega arith)

-- a moment
module _ (b : List ℕ) (u z : ℕ) (eu : u ≡ number (take 4 (drop 7 b))) (ez : z ≡ number (take 2 (drop 11 b))) where
  moment_is : moment_in b ≡ day_in b ++ ((84 ∷ clock_in b) ++ (fraction_raw u ++ zone_raw z))
  unfolding moment_in
  moment_is = rw (eu, ez) refl

  moment_long : length (moment_in b) ≡ 19 + (length (fraction_raw u) + length (zone_raw z))
  moment_long = ap length moment_is ∙ simp length-append (omega (arith, day_long b, clock_long b))

  pub moment_put : (d d₁ d₂ d₃ d₄ : List ℕ) (to n : ℕ) → 32 ≤ length d → n ≤ 32
      → d₁ ≡ pasted d 0 (day_in b) → d₂ ≡ pasted d₁ 10 (84 ∷ clock_in b)
      → to ≡ 19 + length (fraction_raw u) → d₃ ≡ pasted d₂ 19 (fraction_raw u)
      → n ≡ to + length (zone_raw z) → d₄ ≡ pasted d₃ to (zone_raw z)
      → (n ≡ length (moment_in b)) × (moment_in b ≡ slice 0 n d₄)
  moment_put d d₁ d₂ d₃ d₄ to n h k e₁ e₂ f₃ e₃ f₄ e₄ =
      let q : n ≡ length (moment_in b) = omega (arith, moment_long) in
      let p₄ = laid d₃ to (zone_raw z) n d₄ f₄ e₄ in
      let p₃ = puts_then _ _ _ _ _ _ _ _ (laid d₂ 19 (fraction_raw u) to d₃ f₃ e₃) p₄ in
      let p₂ = puts_then _ _ _ _ _ _ _ _ (laid d₁ 10 (84 ∷ clock_in b) 19 d₂ (omega (arith, clock_long b)) e₂) p₃ in
      let p₁ = puts_then _ _ _ _ _ _ _ _ (laid d 0 (day_in b) 10 d₁ (omega (arith, day_long b)) e₁) p₂ in
      let w : d₄ ≡ pasted d 0 (moment_in b) = p₁.is (omega (arith, ap length moment_is)) ∙ ap (pasted d 0) (sym moment_is) in
      (q, sym (ap (slice 0 n) w ∙ taken d (moment_in b) n q (omega arith)))
