-- Hexadecimal: two digits for each byte, one after the other, and back. Assumes nothing.
use mathlib.Core.Path.{◌≡◌, refl, sym, ◌∙◌, ap, ap₂}
use mathlib.Core.List.{List, [], ◌∷◌, ◌++◌, nil≢cons, head-eq_of_cons-eq, tail-eq_of_cons-eq}
use Prim.Native.Nat.{ℕ, ◌+◌, ◌-◌, ◌*◌, ◌/◌, ◌%◌, ◌≤◌, ◌<◌}
use native.Mathlib.Numerals.{add-one}
use native.Mathlib.Decide.{dec_lt}
use native.Mathlib.Omega.{arith}
use lib.ListN.{length, get_or, drop, set, length-drop, length-set, drop_of_length-le}
use lib.Seq.{drop-cons}
use borrow.Author.Tests.{lt-ltb, le-ltb}
use Rattle.text.specs.Lists.{Each}
use Rattle.text.specs.Pasting.{pasted}
use Rattle.text.proofs.Numbers.{Byte}
use Rattle.text.proofs.Pasting.{pasted_no, pasted_none, pasted_first}
use Rattle.program_line.specs.Hex.{hex_digit, hexadecimal}

pub digit_small : (n : ℕ) → n < 10 → hex_digit n ≡ 48 + n
unfolding hex_digit
digit_small n h = rw (lt-ltb n 10 h)

pub digit_large : (n : ℕ) → 10 ≤ n → hex_digit n ≡ 87 + n
unfolding hex_digit
digit_large n h = rw (le-ltb n 10 h)

pub hex_cons : (x : ℕ) (xs : List ℕ) → hexadecimal (x ∷ xs) ≡ hex_digit (x / 16) ∷ hex_digit (x % 16) ∷ hexadecimal xs
unfolding hexadecimal
hex_cons x xs = refl

-- two digits for each byte
pub length_hex : (s : List ℕ) → length (hexadecimal s) ≡ length s + length s
unfolding hexadecimal
length_hex [] = refl
length_hex (x ∷ s) = omega (arith, length_hex s)

-- a part at a time
pub hex_append : (s t : List ℕ) → hexadecimal (s ++ t) ≡ hexadecimal s ++ hexadecimal t
unfolding hexadecimal
hex_append [] t = refl
hex_append (x ∷ s) t = ap (λ (l : List ℕ). hex_digit (x / 16) ∷ hex_digit (x % 16) ∷ l) (hex_append s t)

-- ---- back: no two lists have the same digits

digit_one : (m n : ℕ) → m < 16 → n < 16 → hex_digit m ≡ hex_digit n → m ≡ n
digit_one m n hm hn e = go (dec_lt m 10) (dec_lt n 10)
  where
    go : Dec (m < 10) → Dec (n < 10) → m ≡ n
    go (yes a) (yes b) = omega (arith, digit_small m a, digit_small n b)
    go (yes a) (no b) = absurd (omega (arith, digit_small m a, digit_large n (omega arith)))
    go (no a) (yes b) = absurd (omega (arith, digit_large m (omega arith), digit_small n b))
    go (no a) (no b) = omega (arith, digit_large m (omega arith), digit_large n (omega arith))

byte_one : (x y : ℕ) → x < 256 → y < 256 → hex_digit (x / 16) ≡ hex_digit (y / 16) → hex_digit (x % 16) ≡ hex_digit (y % 16) → x ≡ y
byte_one x y hx hy e f =
    let a : x / 16 ≡ y / 16 = digit_one (x / 16) (y / 16) (omega arith) (omega arith) e in
    let b : x % 16 ≡ y % 16 = digit_one (x % 16) (y % 16) (omega arith) (omega arith) f in
    omega arith

pub hex_one : (s t : List ℕ) → Each Byte s → Each Byte t → hexadecimal s ≡ hexadecimal t → s ≡ t
unfolding hexadecimal
hex_one [] [] p q e = refl
hex_one [] (y ∷ t) p q e = absurd (nil≢cons e)
hex_one (x ∷ s) [] p q e = absurd (nil≢cons (sym e))
hex_one (x ∷ s) (y ∷ t) p q e =
    let f = tail-eq_of_cons-eq e in
    ap₂ (λ (z : ℕ) (l : List ℕ). z ∷ l) (byte_one x y p.0 q.0 (head-eq_of_cons-eq e) (head-eq_of_cons-eq f)) (hex_one s t p.1 q.1 (tail-eq_of_cons-eq f))

-- ---- a loop that has written the digits of k bytes

pub hex_not : (d : List ℕ) (at : ℕ) (s : List ℕ) → length d < at + 2 * length s → d ≡ pasted d at (hexadecimal s)
hex_not d at s h = sym (pasted_no d at (hexadecimal s) (omega (arith, length_hex s)))

module _ (s d₀ : List ℕ) (at : ℕ) where
  -- with the digits of the bytes that are left, all digits stand there
  abbrev pub Spreading : List ℕ → ℕ → Type 0
  Spreading d k = pasted d (at + 2 * k) (hexadecimal (drop k s)) ≡ pasted d₀ at (hexadecimal s)

  module _ (d : List ℕ) (k : ℕ) (w : Spreading d k) where
    pub hex_end : length s ≤ k → d ≡ pasted d₀ at (hexadecimal s)
    unfolding hexadecimal
    hex_end h =
        sym (pasted_none d (at + 2 * k)) ∙ ap (λ (u : List ℕ). pasted d (at + 2 * k) (hexadecimal u)) (sym (drop_of_length-le s h)) ∙ w

    pub hex_again : k < length s → at + 2 * length s ≤ length d → {u v : ℕ} → u ≡ hex_digit (get_or s k 0 / 16) → v ≡ hex_digit (get_or s k 0 % 16)
        → Spreading (set (set d (at + 2 * k) u) (at + 2 * k + 1) v) (k + 1)
    hex_again h room {u} {v} eu ev =
        let to : ℕ = at + 2 * k in
        let x : ℕ = get_or s k 0 in
        let t : List ℕ = drop (k + 1) s in
        let e : drop k s ≡ x ∷ t = rw (add-one k) (drop-cons s k 0 h) in
        let l : length t ≡ length s - (k + 1) = length-drop (k + 1) s in
        let f : hexadecimal (drop k s) ≡ u ∷ v ∷ hexadecimal t =
        ap hexadecimal e ∙ hex_cons x t ∙ ap₂ (λ (p q : ℕ). p ∷ q ∷ hexadecimal t) (sym eu) (sym ev) in
        let g : at + 2 * (k + 1) ≡ to + 1 + 1 = omega arith in
        ap (λ (n : ℕ). pasted (set (set d to u) (to + 1) v) n (hexadecimal t)) g
        ∙ pasted_first (set d to u) (to + 1) v (hexadecimal t) (omega (arith, room, l, length-set d to u, length_hex t))
        ∙ pasted_first d to u (v ∷ hexadecimal t) (omega (arith, room, l, length_hex t))
        ∙ ap (pasted d to) (sym f)
        ∙ w
