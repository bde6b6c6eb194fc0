-- Decimal digits: the last one apart, how many there are, and how they are written. Assumes nothing.
use Rattle.std.proofs.Common.{◌≡◌, ℕ, zero, suc, ◌+◌, ◌-◌, ◌/◌, ◌%◌, ◌^◌, ◌<◌, ◌≤◌, ◌≢◌, List, [], ◌∷◌, ◌++◌, length, set, sym, refl, ap, ◌∙◌, ap₂, append_assoc, mul_comm, pow-suc, arith, length-append, length-set, le-ltb, lt-ltb, ne_eqb}
use native.Mathlib.Nat.{div-div-eq-div-mul, div-eq_of_lt}
use native.Mathlib.Decide.{dec_lt}
use Rattle.text.specs.Pasting.{pasted}
use Rattle.text.specs.Digits.{digits, in_digits, padded, pointed, last_pointed}
use Rattle.text.proofs.Pasting.{pasted_one, pasted_first, pasted_then}
use Rattle.text.proofs.Lasts.{Made}

one_digit : (f n : ℕ) → n < 10 → digits (suc f) n ≡ (48 + n) ∷ []
unfolding digits
one_digit f n h = rw (lt-ltb n 10 h)

more_digits : (f n : ℕ) → 10 ≤ n → digits (suc f) n ≡ digits f (n / 10) ++ ((48 + n % 10) ∷ [])
unfolding digits
more_digits f n h = rw (le-ltb n 10 h)

-- how much fuel there is changes nothing, if it is enough
enough : (f g n : ℕ) → n < f → n < g → digits f n ≡ digits g n
enough zero g n h k = absurd (omega arith)
enough (suc f) zero n h k = absurd (omega arith)
enough (suc f) (suc g) n h k = go (dec_lt n 10) (enough f g (n / 10))
  where
    go : Dec (n < 10) → (n / 10 < f → n / 10 < g → digits f (n / 10) ≡ digits g (n / 10)) → digits (suc f) n ≡ digits (suc g) n
    go (yes d) ih = one_digit f n d ∙ sym (one_digit g n d)
    go (no d) ih =
        more_digits f n (omega arith) ∙ ap (λ (l : List ℕ). l ++ ((48 + n % 10) ∷ [])) (ih (omega arith) (omega arith)) ∙ sym (more_digits g n (omega arith))

pub digits_one : (n : ℕ) → n < 10 → in_digits n ≡ (48 + n) ∷ []
unfolding in_digits
digits_one n h = one_digit n n h

pub digits_more : (n : ℕ) → 10 ≤ n → in_digits n ≡ in_digits (n / 10) ++ ((48 + n % 10) ∷ [])
unfolding in_digits
digits_more n h =
    more_digits n n h ∙ ap (λ (l : List ℕ). l ++ ((48 + n % 10) ∷ [])) (enough n (suc (n / 10)) (n / 10) (omega arith) (omega arith))

pub length_more : (n : ℕ) → 10 ≤ n → length (in_digits n) ≡ length (in_digits (n / 10)) + 1
length_more n h = ap length (digits_more n h) ∙ length-append (in_digits (n / 10)) ((48 + n % 10) ∷ [])

pub length_some : (n : ℕ) → 1 ≤ length (in_digits n)
length_some n = go (dec_lt n 10)
  where
    go : Dec (n < 10) → 1 ≤ length (in_digits n)
    go (yes d) = omega (arith, ap length (digits_one n d))
    go (no d) = omega (arith, length_more n (omega arith))

pub length_most : (k n : ℕ) → n < 10 ^ suc k → length (in_digits n) ≤ suc k
length_most zero n h = omega (arith, ap length (digits_one n h))
length_most (suc k) n h = go (dec_lt n 10) (length_most k (n / 10))
  where
    go : Dec (n < 10) → (n / 10 < 10 ^ suc k → length (in_digits (n / 10)) ≤ suc k) → length (in_digits n) ≤ suc (suc k)
    go (yes d) ih = omega (arith, ap length (digits_one n d))
    go (no d) ih = omega (arith, length_more n (omega arith), ih (omega (arith, pow-suc 10 (suc k))))

-- a number of 64 bits has at most twenty
pub length_word : (n : ℕ) → n < 2 ^ 64 → length (in_digits n) ≤ 20
length_word n h = length_most 19 n (omega arith)

-- ---- the last k digits

pub length_padded : (k n : ℕ) → length (padded k n) ≡ k
unfolding padded
length_padded zero n = refl
length_padded (suc k) n = omega (arith, length-append (padded k (n / 10)) ((48 + n % 10) ∷ []), length_padded k (n / 10))

padded_pred : (k n : ℕ) → 0 < k → padded k n ≡ padded (k - 1) (n / 10) ++ ((48 + n % 10) ∷ [])
unfolding padded
padded_pred zero n h = absurd (omega arith)
padded_pred (suc k) n h = let e : suc k - 1 ≡ k = omega arith in rw e

pub digits_made : Made padded (λ (n : ℕ). n / 10) (λ (n : ℕ). 48 + n % 10)
unfolding padded
digits_made = record { none = λ n. refl; long = length_padded; more = padded_pred }

pub padded_one : (n : ℕ) → n < 10 → padded 1 n ≡ (48 + n) ∷ []
unfolding padded
padded_one n h = let e : n % 10 ≡ n = omega arith in rw e

-- ---- with a point before the last k

pub tenths : (k n : ℕ) → n / 10 ^ suc k ≡ n / 10 / 10 ^ k
tenths k n = ap (λ (w : ℕ). n / w) (pow-suc 10 k ∙ mul_comm (10 ^ k) 10) ∙ sym (div-div-eq-div-mul n 10 (10 ^ k))

ten_most : (k : ℕ) → 10 ≤ 10 ^ suc k
ten_most zero = omega arith
ten_most (suc k) = omega (arith, pow-suc 10 (suc k), ten_most k)

pub pointed_first : (k n : ℕ) → n < 10 → 0 < k → pointed k n ≡ 48 ∷ 46 ∷ padded k n
pointed_first zero n h z = absurd (omega arith)
pointed_first (suc k) n h z =
    ap (λ (w : ℕ). in_digits w ++ (46 ∷ padded (suc k) n)) (div-eq_of_lt (omega (arith, ten_most k)))
    ∙ ap (λ (l : List ℕ). l ++ (46 ∷ padded (suc k) n)) (digits_one 0 (omega arith))

pub last_other : (k d : ℕ) → k ≢ 1 → last_pointed k d ≡ (48 + d) ∷ []
last_other k d h = rw (ne_eqb k 1 h)

pub last_one : (k d : ℕ) → k ≡ 1 → last_pointed k d ≡ 46 ∷ (48 + d) ∷ []
last_one k d e = ap (λ (j : ℕ). last_pointed j d) e

pub pointed_more : (k n : ℕ) → 10 ≤ n → pointed k n ≡ pointed (k - 1) (n / 10) ++ last_pointed k (n % 10)
unfolding padded
pointed_more zero n h = digits_more n h
pointed_more (suc zero) n h = refl
pointed_more (suc (suc k)) n h =
    let u = in_digits (n / 10 / 10 ^ suc k) in
    let j : suc k ≡ suc (suc k) - 1 = omega arith in
    ap (λ (w : ℕ). in_digits w ++ (46 ∷ padded (suc (suc k)) n)) (tenths (suc k) n)
    ∙ sym (append_assoc u (46 ∷ padded (suc k) (n / 10)) ((48 + n % 10) ∷ []))
    ∙ ap₂ (λ (i : ℕ) (l : List ℕ). pointed i (n / 10) ++ l) j (sym (last_other (suc (suc k)) (n % 10) (λ e. omega arith)))

-- how many bytes that is
pub record Wide (k n : ℕ) : Type 0 where
  pub none : k ≡ 0 → length (pointed k n) ≡ length (in_digits n)
  pub within : 0 < k → k < length (in_digits n) → length (pointed k n) ≡ length (in_digits n) + 1
  pub beyond : 0 < k → length (in_digits n) ≤ k → length (pointed k n) ≡ k + 2

wide_first : (k n : ℕ) → n < 10 → Wide k n
wide_first k n h =
    let w = ap length (digits_one n h) in
    record {
      none = λ e. ap (λ (j : ℕ). length (pointed j n)) e;
      within = λ z l. absurd (omega arith);
      beyond = λ z l. omega (arith, ap length (pointed_first k n h z), length_padded k n);
    }

-- with the last digit after a tenth, which is as wide as it should be
wide_more : (k n : ℕ) → 10 ≤ n → Wide (k - 1) (n / 10) → Wide k n
wide_more zero n h t = record { none = λ e. refl; within = λ z l. absurd (omega arith); beyond = λ z l. absurd (omega arith) }
wide_more (suc zero) n h t =
    let e = ap length (pointed_more 1 n h) ∙ length-append (in_digits (n / 10)) (46 ∷ (48 + n % 10) ∷ []) in
    record {
      none = λ z. absurd (omega arith);
      within = λ z l. omega (arith, length_more n h);
      beyond = λ z l. absurd (omega (arith, length_more n h, length_some (n / 10)));
    }
wide_more (suc (suc k)) n h t =
    let m = suc (suc k) in
    let e : length (pointed m n) ≡ length (pointed (m - 1) (n / 10)) + 1 =
    ap length (pointed_more m n h)
    ∙ length-append (pointed (m - 1) (n / 10)) (last_pointed m (n % 10))
    ∙ ap (λ (l : List ℕ). length (pointed (m - 1) (n / 10)) + length l) (last_other m (n % 10) (λ q. omega arith)) in
    record {
      none = λ z. absurd (omega arith);
      within = λ z l. omega (arith, length_more n h, t.within (omega arith) (omega (arith, length_more n h)));
      beyond = λ z l. omega (arith, length_more n h, t.beyond (omega arith) (omega (arith, length_more n h)));
    }

wide_in : (f k n : ℕ) → n ≤ f → Wide k n
wide_in zero k n h = wide_first k n (omega arith)
wide_in (suc f) k n h = go (dec_lt n 10) (wide_in f (k - 1) (n / 10))
  where
    go : Dec (n < 10) → (n / 10 ≤ f → Wide (k - 1) (n / 10)) → Wide k n
    go (yes d) ih = wide_first k n d
    go (no d) ih = wide_more k n (omega arith) (ih (omega arith))

pub wide : (k n : ℕ) → Wide k n
wide k n = wide_in n k n (omega arith)

-- ---- digits written

-- the last one, with a point before it or without
module _ (d : List ℕ) (at k e : ℕ) (h : at + length (last_pointed k e) ≤ length d) where
  pub last_room : k ≡ 1 → at + 2 ≤ length d
  last_room z = omega (arith, ap length (last_one k e z))

  pub last_put : k ≡ 1 → set (set d at 46) (at + 1) (48 + e) ≡ pasted d at (last_pointed k e)
  last_put z =
      let r = last_room z in
      sym (pasted_one (set d at 46) (at + 1) (48 + e) (omega (arith, length-set d at 46)))
      ∙ pasted_first d at 46 ((48 + e) ∷ []) (omega arith)
      ∙ ap (pasted d at) (sym (last_one k e z))

  pub other_room : k ≢ 1 → at + 1 ≤ length d
  other_room z = omega (arith, ap length (last_other k e z))

  pub other_put : k ≢ 1 → set d at (48 + e) ≡ pasted d at (last_pointed k e)
  other_put z = sym (pasted_one d at (48 + e) (omega (arith, other_room z))) ∙ ap (pasted d at) (sym (last_other k e z))

-- a single digit, or `0.` and the digits after it
module _ (d : List ℕ) (at k n : ℕ) (z : n < 10) (h : at + length (pointed k n) ≤ length d) where
  pub single_room : k ≡ 0 → at + 1 ≤ length d
  single_room e = omega (arith, ap (λ (j : ℕ). length (pointed j n)) e, ap length (digits_one n z))

  pub single_put : k ≡ 0 → set d at (48 + n) ≡ pasted d at (pointed k n)
  single_put e =
      sym (pasted_one d at (48 + n) (omega (arith, single_room e)))
      ∙ ap (pasted d at) (sym (digits_one n z) ∙ ap (λ (j : ℕ). pointed j n) (sym e))

  pub first_long : 0 < k → length (pointed k n) ≡ 2 + k
  first_long e = omega (arith, ap length (pointed_first k n z e), length_padded k n)

  pub first_put : 0 < k → pasted (pasted d at (48 ∷ 46 ∷ [])) (at + 2) (padded k n) ≡ pasted d at (pointed k n)
  first_put e =
      pasted_then d at (48 ∷ 46 ∷ []) (padded k n) (omega (arith, first_long e, length_padded k n))
      ∙ ap (pasted d at) (sym (pointed_first k n z e))

-- a tenth, and the last digit after it
module _ (k n : ℕ) (h : 10 ≤ n) where
  pub more_long : length (pointed k n) ≡ length (pointed (k - 1) (n / 10)) + length (last_pointed k (n % 10))
  more_long = ap length (pointed_more k n h) ∙ length-append (pointed (k - 1) (n / 10)) (last_pointed k (n % 10))

  pub more_put : (d : List ℕ) (at : ℕ) → at + length (pointed k n) ≤ length d →
      pasted (pasted d at (pointed (k - 1) (n / 10))) (at + length (pointed (k - 1) (n / 10))) (last_pointed k (n % 10)) ≡ pasted d at (pointed k n)
  more_put d at r =
      pasted_then d at (pointed (k - 1) (n / 10)) (last_pointed k (n % 10)) (omega (arith, more_long)) ∙ ap (pasted d at) (sym (pointed_more k n h))
