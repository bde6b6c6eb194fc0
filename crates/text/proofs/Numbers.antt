-- Numbers as big-endian bytes and back, over the width. Assumes nothing.
use Rattle.std.proofs.Common.{◌≡◌, ℕ, zero, suc, ◌+◌, ◌-◌, ◌*◌, ◌/◌, ◌%◌, ◌^◌, ◌<◌, ◌≤◌, List, [], ◌∷◌, ◌++◌, length, get_or, take, drop, sym, refl, ap, ap₂, mul_comm, ◌∙◌, subst, pow-suc, add-one, arith, length-append, drop_of_length-le, length-take-le, take_all, drop-cons, take-suc, take_at, drop_at}
use native.Mathlib.Nat.{pow-le-pow_right, div-div-eq-div-mul}
use Rattle.std.specs.Int.{byte_at, bytes_high_first}
use Rattle.text.specs.Lists.{Each}
pub use Rattle.text.specs.Little.{Byte}
use Rattle.text.specs.Numbers.{big_endian, number_from, number}
use Rattle.text.specs.Pasting.{pasted}
use Rattle.text.proofs.Pasting.{rest_pasted}
use Rattle.text.proofs.Lasts.{Made}

-- ---- a list by its last element

pub by_last : (P : List ℕ → Type 0) → P [] → ((u : List ℕ) (x : ℕ) → P u → P (u ++ (x ∷ []))) → (s : List ℕ) → P s
by_last P none more s = go (length s) s refl
  where
    none_of : (s : List ℕ) → length s ≡ 0 → P s
    none_of [] e = none
    none_of (x ∷ s) e = absurd (omega arith)

    go : (n : ℕ) (s : List ℕ) → length s ≡ n → P s
    go zero s e = none_of s e
    go (suc n) s e =
        subst P (sym (take-suc s n 0 (omega arith)) ∙ take_all (suc n) s (omega arith))
        (more (take n s) (get_or s n 0) (go n (take n s) (length-take-le n s (omega arith))))

pub each_last : (P : ℕ → Type 0) (u : List ℕ) (x : ℕ) → Each P (u ++ (x ∷ [])) → Each P u × P x
each_last P [] x h = (tt, h.0)
each_last P (y ∷ u) x h = let w = each_last P u x h.1 in ((h.0, w.0), w.1)

pub each_more : (P : ℕ → Type 0) (u : List ℕ) (x : ℕ) → Each P u → P x → Each P (u ++ (x ∷ []))
each_more P [] x h k = (k, tt)
each_more P (y ∷ u) x h k = (h.0, each_more P u x h.1 k)

-- ---- the number of bytes

pub number_last : (a : ℕ) (u : List ℕ) (x : ℕ) → number_from a (u ++ (x ∷ [])) ≡ number_from a u * 256 + x
unfolding number_from
number_last a [] x = refl
number_last a (y ∷ u) x = number_last (a * 256 + y) u x

pub number_less : (s : List ℕ) → Each Byte s → number s < 256 ^ length s
unfolding number_from
number_less =
    by_last (λ (s : List ℕ). Each Byte s → number s < 256 ^ length s) (λ h. omega arith)
    (λ u x ih h.
    let w = each_last Byte u x h in
    let e : length (u ++ (x ∷ [])) ≡ suc (length u) = omega (arith, length-append u (x ∷ [])) in
    rw (number_last 0 u x, e) (let i = ih w.0 in let y = w.1 in omega (arith, pow-suc 256 (length u))))

-- ---- the bytes of a number

pub big_length : (w n : ℕ) → length (big_endian w n) ≡ w
unfolding big_endian
big_length zero n = refl
big_length (suc w) n = omega (arith, length-append (big_endian w (n / 256)) ((n % 256) ∷ []), big_length w (n / 256))

pub big_bytes : (w n : ℕ) → Each Byte (big_endian w n)
unfolding big_endian
big_bytes zero n = tt
big_bytes (suc w) n = each_more Byte (big_endian w (n / 256)) (n % 256) (big_bytes w (n / 256)) (omega arith)

pub big_pred : (k n : ℕ) → 0 < k → big_endian k n ≡ big_endian (k - 1) (n / 256) ++ ((n % 256) ∷ [])
unfolding big_endian
big_pred zero n h = absurd (omega arith)
big_pred (suc k) n h = let e : suc k - 1 ≡ k = omega arith in rw e

-- there and back
pub number_big : (w n : ℕ) → n < 256 ^ w → number (big_endian w n) ≡ n
unfolding big_endian number_from
number_big zero n h = omega arith
number_big (suc w) n h =
    number_last 0 (big_endian w (n / 256)) (n % 256) ∙ omega (arith, number_big w (n / 256) (omega (arith, pow-suc 256 w)))

pub big_number : (s : List ℕ) → Each Byte s → big_endian (length s) (number s) ≡ s
unfolding big_endian
big_number =
    by_last (λ (s : List ℕ). Each Byte s → big_endian (length s) (number s) ≡ s) (λ h. refl)
    (λ u x ih h.
    let w = each_last Byte u x h in
    let y = w.1 in
    let e : length (u ++ (x ∷ [])) ≡ suc (length u) = omega (arith, length-append u (x ∷ [])) in
    let p : (number u * 256 + x) / 256 ≡ number u = omega arith in
    let q : (number u * 256 + x) % 256 ≡ x = omega arith in
    rw (e, number_last 0 u x, p, q) (ap (λ (l : List ℕ). l ++ (x ∷ [])) (ih w.0)))

pub big_number_of : (w : ℕ) (s : List ℕ) → length s ≡ w → Each Byte s → big_endian w (number s) ≡ s
big_number_of w s e h = rw (← e) (big_number s h)

-- two numbers have two spellings, and none begins another
pub big_inj : (w m n : ℕ) → m < 256 ^ w → n < 256 ^ w → big_endian w m ≡ big_endian w n → m ≡ n
big_inj w m n p q e = sym (number_big w m p) ∙ ap number e ∙ number_big w n q

pub big_prefix : (w m n : ℕ) (t u : List ℕ) → m < 256 ^ w → n < 256 ^ w → big_endian w m ++ t ≡ big_endian w n ++ u → (m ≡ n) × (t ≡ u)
big_prefix w m n t u p q e =
    let a : big_endian w m ≡ big_endian w n =
    sym (take_at (big_endian w m) t w (big_length w m)) ∙ ap (take w) e ∙ take_at (big_endian w n) u w (big_length w n) in
    let b : t ≡ u = sym (drop_at (big_endian w m) t w (big_length w m)) ∙ ap (drop w) e ∙ drop_at (big_endian w n) u w (big_length w n) in
    (big_inj w m n p q a, b)

-- what was put is got
pub got_put : (d : List ℕ) (at w n : ℕ) → at + w ≤ length d → n < 256 ^ w → number (take w (drop at (pasted d at (big_endian w n)))) ≡ n
got_put d at w n h k =
    let l = big_length w n in
    ap (λ (s : List ℕ). number (take w s)) (rest_pasted d at (big_endian w n) (omega arith))
    ∙ ap number (take_at (big_endian w n) (drop (at + length (big_endian w n)) d) w l)
    ∙ number_big w n k

-- the bytes of a number, one less and the last
pub big_made : Made big_endian (λ (n : ℕ). n / 256) (λ (n : ℕ). n % 256)
unfolding big_endian
big_made = record { none = λ n. refl; long = big_length; more = big_pred }

-- the library's bytes of a number
high_shift : (k n : ℕ) → bytes_high_first (suc k) n ≡ bytes_high_first k (n / 256) ++ ((n % 256) ∷ [])
high_shift zero n = refl
high_shift (suc k) n = ap₂ (λ (b : ℕ) (l : List ℕ). b ∷ l) (byte_shift k) (high_shift k n)
  where
    byte_shift : (j : ℕ) → byte_at (suc j) n ≡ byte_at j (n / 256)
    byte_shift zero = refl
    byte_shift (suc j) =
        ap (λ (w : ℕ). n / w % 256) (pow-suc 256 (suc j) ∙ mul_comm (256 ^ suc j) 256) ∙ ap (λ (w : ℕ). w % 256) (sym (div-div-eq-div-mul n 256 (256 ^ suc j)))

pub big_high : (k n : ℕ) → bytes_high_first k n ≡ big_endian k n
unfolding big_endian
big_high zero n = refl
big_high (suc k) n = high_shift k n ∙ ap (λ (l : List ℕ). l ++ ((n % 256) ∷ [])) (big_high k (n / 256))

-- ---- a loop that has read k bytes of s, which write r

pub record Getting (s : List ℕ) (r k : ℕ) : Type 0 where
  pub below : r < 256 ^ k
  pub here : number_from r (drop k s) ≡ number s

pub get_start : (s : List ℕ) → Getting s 0 0
get_start s = record { below = omega arith; here = refl }

module _ (s : List ℕ) (r k : ℕ) (g : Getting s r k) where
  pub get_end : length s ≤ k → r ≡ number s
  unfolding number_from
  get_end h = ap (number_from r) (sym (drop_of_length-le s h)) ∙ g.here

  -- the next one fits in 64 bits
  pub get_fits : k < 8 → r < 256 ^ 7
  get_fits b =
      let i : k ≤ 7 = omega arith in
      let q : 256 ^ k ≤ 256 ^ 7 = pow-le-pow_right (omega arith) i in
      omega (arith, g.below)

  pub get_again : (x : ℕ) → x ≡ get_or s k 0 → k < length s → get_or s k 0 < 256 → Getting s (r * 256 + x) (k + 1)
  unfolding number_from
  get_again x e h b =
      let c : drop k s ≡ get_or s k 0 ∷ drop (k + 1) s = rw (add-one k) (drop-cons s k 0 h) in
      let p : 256 ^ (k + 1) ≡ 256 ^ k * 256 = ap (λ (m : ℕ). 256 ^ m) (add-one k) ∙ pow-suc 256 k in
      record {
        below = omega (arith, g.below);
        here = ap (λ (z : ℕ). number_from (r * 256 + z) (drop (k + 1) s)) e ∙ ap (number_from r) (sym c) ∙ g.here;
      }
