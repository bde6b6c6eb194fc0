-- `decoded` is right: it finds the encoding of every scalar value, and nothing else. Assumes nothing.
use mathlib.Core.Path.{◌≡◌, refl, sym, ◌∙◌, ap, subst}
use mathlib.Core.Bool.{true, false, ◌&&◌, and-false}
use mathlib.Core.List.{List, [], ◌∷◌, ◌++◌}
use mathlib.Core.Logic.{◌⊎◌, inl, inr, ⊎_elim}
use Prim.Native.Nat.{ℕ, ◌+◌, ◌*◌, ◌/◌, ◌%◌, ◌≤◌, ◌<◌, zero-le, suc-le-suc}
use native.Mathlib.Omega.{arith}
use native.Mathlib.Decide.{dec_lt}
use lib.Dec.{ltb, leb}
use lib.ListN.{length, drop, get_or, drop_of_length-le}
use lib.Seq.{drop-cons, drop-append_seam}
use borrow.Author.Tests.{lt-ltb, le-ltb, le-leb, ltb-true, ltb-false, leb-true}
use Rattle.text_characters.specs.Utf8.{Scalar, encode}
use Rattle.text_characters.specs.Chars.{char_of, Begun, Decoded}
use Rattle.text_characters.specs.mirror.Decoding.{is_tail, is_scalar, kept, two, three, four, by_first, decoded, Paired}
use Rattle.text_characters.specs.declared.utf8.Char.{Char}
use Rattle.text.proofs.Classes.{Named, from, ◌or◌, within, is_in, and_is}
use Rattle.text_characters.proofs.Chars as chars

-- ---- the classes

pub tail : Named is_tail (from 128 191)
unfolding is_tail
tail = record { is = λ x. refl }

pub scalar : Named is_scalar (from 0 0xD7FF or from 0xE000 0x10FFFF)
unfolding is_scalar
scalar = record { is = λ x. refl }

-- a scalar value lies below the surrogates or above them
pub sides : (c : ℕ) → Scalar c → (c < 0xD800) ⊎ (0xE000 ≤ c)
sides c sc = go (dec_lt c 0xD800) (dec_lt 0xDFFF c)
  where
    go : Dec (c < 0xD800) → Dec (0xDFFF < c) → (c < 0xD800) ⊎ (0xE000 ≤ c)
    go (yes a) d = inl a
    go (no a) (yes b) = inr b
    go (no a) (no b) = absurd (sc.outside (omega arith) (omega arith))

pub scalar_yes : (c : ℕ) → Scalar c → is_scalar c ≡ true
scalar_yes c sc =
    scalar.is c
    ∙ within (from 0 0xD7FF or from 0xE000 0x10FFFF) c
    (⊎_elim (λ h. inl (zero-le, omega arith)) (λ h. inr (h, omega (arith, sc.below))) (sides c sc))

pub scalar_is : (c : ℕ) → is_scalar c ≡ true → Scalar c
scalar_is c e =
    ⊎_elim (λ h. let k = h.1 in record { below = omega arith; outside = omega arith })
    (λ h. let k = h.0 in let l = h.1 in record { below = omega arith; outside = omega arith }) (is_in scalar c e)

tail_yes : (x : ℕ) → is_tail (0x80 + x % 64) ≡ true
tail_yes x = tail.is (0x80 + x % 64) ∙ within (from 128 191) (0x80 + x % 64) (omega arith, omega arith)

-- ---- an encoding by its length

pub encode1 : (c : ℕ) → c < 0x80 → encode c ≡ c ∷ []
unfolding encode
encode1 c h = rw (lt-ltb c 0x80 h)

pub encode2 : (c : ℕ) → 0x80 ≤ c → c < 0x800 → encode c ≡ (0xC0 + c / 64) ∷ (0x80 + c % 64) ∷ []
unfolding encode
encode2 c h k = rw (le-ltb c 0x80 h, lt-ltb c 0x800 k)

pub encode3 : (c : ℕ) → 0x800 ≤ c → c < 0x10000 → encode c ≡ (0xE0 + c / 4096) ∷ (0x80 + c / 64 % 64) ∷ (0x80 + c % 64) ∷ []
unfolding encode
encode3 c h k = rw (le-ltb c 0x80 (omega arith), le-ltb c 0x800 h, lt-ltb c 0x10000 k)

pub encode4 : (c : ℕ) → 0x10000 ≤ c → encode c ≡ (0xF0 + c / 262144) ∷ (0x80 + c / 4096 % 64) ∷ (0x80 + c / 64 % 64) ∷ (0x80 + c % 64) ∷ []
unfolding encode
encode4 c h = rw (le-ltb c 0x80 (omega arith), le-ltb c 0x800 (omega arith), le-ltb c 0x10000 h)

-- by its length, what holds of every encoding
pub by_length : (P : List ℕ → Type 0) (c : ℕ)
    → (c < 0x80 → P (c ∷ []))
    → (0x80 ≤ c → c < 0x800 → P ((0xC0 + c / 64) ∷ (0x80 + c % 64) ∷ []))
    → (0x800 ≤ c → c < 0x10000 → P ((0xE0 + c / 4096) ∷ (0x80 + c / 64 % 64) ∷ (0x80 + c % 64) ∷ []))
    → (0x10000 ≤ c → P ((0xF0 + c / 262144) ∷ (0x80 + c / 4096 % 64) ∷ (0x80 + c / 64 % 64) ∷ (0x80 + c % 64) ∷ []))
    → P (encode c)
by_length P c f g h k = go (dec_lt c 0x80) (dec_lt c 0x800) (dec_lt c 0x10000)
  where
    go : Dec (c < 0x80) → Dec (c < 0x800) → Dec (c < 0x10000) → P (encode c)
    go (yes a) d e = rw (encode1 c a) (f a)
    go (no a) (yes b) e = rw (encode2 c (omega arith) b) (g (omega arith) b)
    go (no a) (no b) (yes d) = rw (encode3 c (omega arith) d) (h (omega arith) d)
    go (no a) (no b) (no d) = rw (encode4 c (omega arith)) (k (omega arith))

pub encode_some : (c : ℕ) → 0 < length (encode c)
encode_some c =
    by_length (λ (l : List ℕ). 0 < length l) c (λ h. suc-le-suc zero-le) (λ h k. suc-le-suc zero-le) (λ h k. suc-le-suc zero-le)
    (λ h. suc-le-suc zero-le)

-- ---- every encoding is found

kept_yes : (n low c : ℕ) → low ≤ c → Scalar c → kept n low c ≡ char_of n c
unfolding kept
kept_yes n low c h sc = rw (le-leb low c h, scalar_yes c sc)

-- two bytes that are no longer form than they need be
pub pair_two : (x y : ℕ) → 0xC2 ≤ x → x ≤ 0xDF → is_tail y ≡ true → char_of 2 (x % 32 * 64 + y % 64) ≡ two x y
unfolding two
pair_two x y h k t = sym (rw t (kept_yes 2 0x80 (x % 32 * 64 + y % 64) (omega arith) (record { below = omega arith; outside = λ a b. omega arith })))

-- the bytes of a code point give it back
back2 : (c : ℕ) → c < 0x800 → (0xC0 + c / 64) % 32 * 64 + (0x80 + c % 64) % 64 ≡ c
back2 c h = omega arith

back3 : (c : ℕ) → c < 0x10000 → (0xE0 + c / 4096) % 16 * 4096 + (0x80 + c / 64 % 64) % 64 * 64 + (0x80 + c % 64) % 64 ≡ c
back3 c h = omega arith

digit64 : (a : ℕ) → (0x80 + a % 64) % 64 ≡ a % 64
digit64 a = omega arith

back4 : (c : ℕ) → c < 0x110000
    → (0xF0 + c / 262144) % 8 * 262144 + (0x80 + c / 4096 % 64) % 64 * 4096 + (0x80 + c / 64 % 64) % 64 * 64 + (0x80 + c % 64) % 64 ≡ c
back4 c h =
    let t : (0xF0 + c / 262144) % 8 ≡ c / 262144 = omega arith in
    rw (t, digit64 (c / 4096), digit64 (c / 64), digit64 c)
    (sums (c / 262144) (c / 4096 % 64) (c / 64 % 64) (c % 64) (c / 4096) (c % 4096) c (omega arith) (omega arith) (omega arith))
  where
    sums : (a b d e f g c : ℕ) → a * 64 + b ≡ f → d * 64 + e ≡ g → f * 4096 + g ≡ c → a * 262144 + b * 4096 + d * 64 + e ≡ c
    sums a b d e f g c p q r = omega arith

module _ (x y z w : ℕ) where
  first1 : x < 0x80 → by_first x y z w ≡ char_of 1 x
  first1 h = rw (lt-ltb x 0x80 h)

  first2 : 0xC0 ≤ x → x < 0xE0 → by_first x y z w ≡ two x y
  first2 h k = rw (le-ltb x 0x80 (omega arith), le-ltb x 0xC0 h, lt-ltb x 0xE0 k)

  first3 : 0xE0 ≤ x → x < 0xF0 → by_first x y z w ≡ three x y z
  first3 h k = rw (le-ltb x 0x80 (omega arith), le-ltb x 0xC0 (omega arith), le-ltb x 0xE0 h, lt-ltb x 0xF0 k)

  first4 : 0xF0 ≤ x → x < 0xF8 → by_first x y z w ≡ four x y z w
  first4 h k = rw (le-ltb x 0x80 (omega arith), le-ltb x 0xC0 (omega arith), le-ltb x 0xE0 (omega arith), le-ltb x 0xF0 h, lt-ltb x 0xF8 k)

pub complete : (c : ℕ) (t : List ℕ) → Scalar c → decoded (encode c ++ t) ≡ char_of (length (encode c)) c
unfolding decoded two three four
complete c t sc =
    by_length (λ (l : List ℕ). decoded (l ++ t) ≡ char_of (length l) c) c
    (λ h. first1 c (get_or t 0 0) (get_or t 1 0) (get_or t 2 0) h)
    (λ h k. first2 (0xC0 + c / 64) _ _ _ (omega arith) (omega arith) ∙ rw (tail_yes c, back2 c k) (kept_yes 2 0x80 c h sc))
    (λ h k. first3 (0xE0 + c / 4096) _ _ _ (omega arith) (omega arith) ∙ rw (tail_yes (c / 64), tail_yes c, back3 c k) (kept_yes 3 0x800 c h sc))
    (λ h. let b = sc.below in first4 (0xF0 + c / 262144) _ _ _ (omega arith) (omega arith) ∙ rw (tail_yes (c / 4096), tail_yes (c / 64), tail_yes c, back4 c b) (kept_yes 4 0x10000 c h sc))

-- ---- and what is found is one

kept_by : (P : Char → Type 0) (n low c : ℕ) → (low ≤ c → Scalar c → P (char_of n c)) → P (char_of 0 0) → P (kept n low c)
unfolding kept
kept_by P n low c f z =
    chars.choose P (leb low c && is_scalar c) (char_of n c) (char_of 0 0)
    (λ e. let w = and_is (leb low c) (is_scalar c) e in f (leb-true low c w.0) (scalar_is c w.1)) (λ e. z)

abbrev Begins : List ℕ → Char → Type 0
Begins = Begun Scalar encode (λ (c : ℕ). c)

made : (c : ℕ) (bs t : List ℕ) → Scalar c → encode c ≡ bs → Begins (bs ++ t) (char_of (length bs) c)
made c bs t sc e =
    record { sign = c; good = sc; rest = t; is = ap (λ (l : List ℕ). l ++ t) (sym e); found = ap (λ (l : List ℕ). char_of (length l) c) (sym e) }

module _ (x y : ℕ) (hy : is_tail y ≡ true) where
  made2 : (t : List ℕ) → 0xC0 ≤ x → x < 0xE0 → (c : ℕ) → c ≡ x % 32 * 64 + y % 64 → 0x80 ≤ c → Scalar c → Begins (x ∷ y ∷ t) (char_of 2 c)
  made2 t a b c e h sc =
      let v = is_in tail y hy in
      let p : 0xC0 + c / 64 ≡ x = omega arith in
      let q : 0x80 + c % 64 ≡ y = omega arith in
      made c (x ∷ y ∷ []) t sc (encode2 c h (omega arith) ∙ rw (p, q))

  made3 : (z : ℕ) → is_tail z ≡ true → (t : List ℕ) → 0xE0 ≤ x → x < 0xF0 → (c : ℕ) → c ≡ x % 16 * 4096 + y % 64 * 64 + z % 64
      → 0x800 ≤ c → Scalar c → Begins (x ∷ y ∷ z ∷ t) (char_of 3 c)
  made3 z hz t a b c e h sc =
      let v = is_in tail y hy in
      let u = is_in tail z hz in
      let p : 0xE0 + c / 4096 ≡ x = omega arith in
      let q : 0x80 + c / 64 % 64 ≡ y = omega arith in
      let r : 0x80 + c % 64 ≡ z = omega arith in
      made c (x ∷ y ∷ z ∷ []) t sc (encode3 c h (omega arith) ∙ rw (p, q, r))

  made4 : (z w : ℕ) → is_tail z ≡ true → is_tail w ≡ true → (t : List ℕ) → 0xF0 ≤ x → x < 0xF8 → (c : ℕ)
      → c ≡ x % 8 * 262144 + y % 64 * 4096 + z % 64 * 64 + w % 64 → 0x10000 ≤ c → Scalar c → Begins (x ∷ y ∷ z ∷ w ∷ t) (char_of 4 c)
  made4 z w hz hw t a b c e h sc =
      let v = is_in tail y hy in
      let u = is_in tail z hz in
      let o = is_in tail w hw in
      let p : 0xF0 + c / 262144 ≡ x = omega arith in
      let q : 0x80 + c / 4096 % 64 ≡ y = omega arith in
      let r : 0x80 + c / 64 % 64 ≡ z = omega arith in
      let m : 0x80 + c % 64 ≡ w = omega arith in
      made c (x ∷ y ∷ z ∷ w ∷ []) t sc (encode4 c h ∙ rw (p, q, r, m))

abbrev Found : List ℕ → Char → Type 0
Found s r = (r ≡ char_of 0 0) ⊎ Begins s r

tail_zero : is_tail 0 ≡ false
unfolding is_tail
tail_zero = refl

two_sound : (x : ℕ) (t : List ℕ) → 0xC0 ≤ x → x < 0xE0 → Found (x ∷ t) (two x (get_or t 0 0))
unfolding two
two_sound x [] a b = inl (simp tail_zero)
two_sound x (y ∷ t) a b =
    let P = Found (x ∷ y ∷ t) in
    chars.choose P (is_tail y) _ _
    (λ e. kept_by P 2 0x80 (x % 32 * 64 + y % 64) (λ h sc. inr (made2 x y e t a b _ refl h sc)) (inl refl))
    (λ e. inl refl)

three_sound : (x : ℕ) (t : List ℕ) → 0xE0 ≤ x → x < 0xF0 → Found (x ∷ t) (three x (get_or t 0 0) (get_or t 1 0))
unfolding three
three_sound x [] a b = inl (simp tail_zero)
three_sound x (y ∷ []) a b = inl (simp (tail_zero, and-false))
three_sound x (y ∷ z ∷ t) a b =
    let P = Found (x ∷ y ∷ z ∷ t) in
    chars.choose P (is_tail y && is_tail z) _ _
    (λ e.
    let w = and_is (is_tail y) (is_tail z) e in
    kept_by P 3 0x800 (x % 16 * 4096 + y % 64 * 64 + z % 64) (λ h sc. inr (made3 x y w.0 z w.1 t a b _ refl h sc)) (inl refl))
    (λ e. inl refl)

four_sound : (x : ℕ) (t : List ℕ) → 0xF0 ≤ x → x < 0xF8 → Found (x ∷ t) (four x (get_or t 0 0) (get_or t 1 0) (get_or t 2 0))
unfolding four
four_sound x [] a b = inl (simp tail_zero)
four_sound x (y ∷ []) a b = inl (simp (tail_zero, and-false))
four_sound x (y ∷ z ∷ []) a b = inl (simp (tail_zero, and-false))
four_sound x (y ∷ z ∷ w ∷ t) a b =
    let P = Found (x ∷ y ∷ z ∷ w ∷ t) in
    chars.choose P (is_tail y && is_tail z && is_tail w) _ _
    (λ e.
    let u = and_is (is_tail y && is_tail z) (is_tail w) e in
    let v = and_is (is_tail y) (is_tail z) u.0 in
    kept_by P 4 0x10000 (x % 8 * 262144 + y % 64 * 4096 + z % 64 * 64 + w % 64)
    (λ h sc. inr (made4 x y v.0 z w v.1 u.1 t a b _ refl h sc)) (inl refl))
    (λ e. inl refl)

one_sound : (x : ℕ) (t : List ℕ) → x < 0x80 → Found (x ∷ t) (char_of 1 x)
one_sound x t h = inr (made x (x ∷ []) t (record { below = omega arith; outside = omega arith }) (encode1 x h))

pub sound : (s : List ℕ) → Found s (decoded s)
unfolding decoded
sound [] = inl refl
sound (x ∷ t) =
    let P = Found (x ∷ t) in
    chars.choose P (ltb x 0x80) _ _ (λ e. one_sound x t (ltb-true x 0x80 e))
    (λ e. chars.choose P (ltb x 0xC0) _ _ (λ f. inl refl)
    (λ f. chars.choose P (ltb x 0xE0) _ _ (λ g. two_sound x t (ltb-false x 0xC0 f) (ltb-true x 0xE0 g))
    (λ g. chars.choose P (ltb x 0xF0) _ _ (λ h. three_sound x t (ltb-false x 0xE0 g) (ltb-true x 0xF0 h))
    (λ h. chars.choose P (ltb x 0xF8) _ _ (λ k. four_sound x t (ltb-false x 0xF0 h) (ltb-true x 0xF8 k)) (λ k. inl refl)))))

-- ---- the promise of `decode`

pub decoded_is : (s : List ℕ) → Decoded s (decoded s)
decoded_is = chars.first_is Scalar encode (λ (c : ℕ). c) decoded complete sound encode_some

-- only one character fits
pub decoded_one : (s : List ℕ) (r : Char) → Decoded s r → r ≡ decoded s
decoded_one = chars.first_one Scalar encode (λ (c : ℕ). c) decoded complete sound encode_some

pub decode_one : (s : List ℕ) (q r : Char) → Decoded s q → Decoded s r → q ≡ r
decode_one s q r a b = decoded_one s q a ∙ sym (decoded_one s r b)

-- no encoding begins another, and two values have two
pub encode_prefix : (c d : ℕ) (t u : List ℕ) → Scalar c → Scalar d → encode c ++ t ≡ encode d ++ u → (c ≡ d) × (t ≡ u)
encode_prefix c d t u p q e =
    let f : char_of (length (encode c)) c ≡ char_of (length (encode d)) d = sym (complete c t p) ∙ ap decoded e ∙ complete d u q in
    let g : c ≡ d = ap (λ (r : Char). r.code) f in
    (g, sym (drop-append_seam (encode c) t) ∙ ap (drop (length (encode c))) (e ∙ ap (λ (n : ℕ). encode n ++ u) (sym g)) ∙ drop-append_seam (encode c) u)

-- ---- what the code reads at a place

pub decoded_end : (s : List ℕ) (i : ℕ) → length s ≤ i → decoded (drop i s) ≡ char_of 0 0
unfolding decoded
decoded_end s i h = rw (drop_of_length-le s h)

pub decoded_at : (s : List ℕ) (i : ℕ) → i < length s
    → decoded (drop i s) ≡ by_first (get_or s i 0) (get_or (drop i s) 1 0) (get_or (drop i s) 2 0) (get_or (drop i s) 3 0)
unfolding decoded
decoded_at s i h = rw (drop-cons s i 0)

pub decoded_ascii : (x : ℕ) (t : List ℕ) → x < 0x80 → decoded (x ∷ t) ≡ char_of 1 x
unfolding decoded
decoded_ascii x t h = first1 x (get_or t 0 0) (get_or t 1 0) (get_or t 2 0) h

-- the answers of `decode`, by the first byte
pub decoded_none : (s : List ℕ) (i : ℕ) (r : Char) → length s ≤ i → r ≡ char_of 0 0 → Decoded (drop i s) r
decoded_none s i r h e = subst (Decoded (drop i s)) (decoded_end s i h ∙ sym e) (decoded_is (drop i s))

module _ (s : List ℕ) (i : ℕ) (h : i < length s) (r : Char) where
  at_first : r ≡ by_first (get_or s i 0) (get_or (drop i s) 1 0) (get_or (drop i s) 2 0) (get_or (drop i s) 3 0) → Decoded (drop i s) r
  at_first e = subst (Decoded (drop i s)) (decoded_at s i h ∙ sym e) (decoded_is (drop i s))

  pub decoded_one_byte : (c : ℕ) → get_or s i 0 < 0x80 → c ≡ get_or s i 0 → r ≡ char_of 1 c → Decoded (drop i s) r
  decoded_one_byte c a e f = at_first (f ∙ ap (char_of 1) e ∙ sym (first1 (get_or s i 0) _ _ _ a))

  pub decoded_stray : 0x80 ≤ get_or s i 0 → get_or s i 0 < 0xC0 → r ≡ char_of 0 0 → Decoded (drop i s) r
  decoded_stray a b f = at_first (f ∙ sym (rw (le-ltb (get_or s i 0) 0x80 a, lt-ltb (get_or s i 0) 0xC0 b)))

  pub decoded_over : 0xF8 ≤ get_or s i 0 → r ≡ char_of 0 0 → Decoded (drop i s) r
  decoded_over a f =
      at_first (f ∙ sym (rw (le-ltb (get_or s i 0) 0x80 (omega arith), le-ltb (get_or s i 0) 0xC0 (omega arith), le-ltb (get_or s i 0) 0xE0 (omega arith), le-ltb (get_or s i 0) 0xF0 (omega arith), le-ltb (get_or s i 0) 0xF8 a)))

  module _ (y : ℕ) (ey : y ≡ get_or (drop i s) 1 0) where
    pub decoded_two : 0xC0 ≤ get_or s i 0 → get_or s i 0 < 0xE0 → r ≡ two (get_or s i 0) y → Decoded (drop i s) r
    decoded_two a b f = at_first (f ∙ rw ey (sym (first2 (get_or s i 0) (get_or (drop i s) 1 0) _ _ a b)))

    module _ (z : ℕ) (ez : z ≡ get_or (drop i s) 2 0) where
      pub decoded_three : 0xE0 ≤ get_or s i 0 → get_or s i 0 < 0xF0 → r ≡ three (get_or s i 0) y z → Decoded (drop i s) r
      decoded_three a b f =
          at_first (f ∙ rw (ey, ez) (sym (first3 (get_or s i 0) (get_or (drop i s) 1 0) (get_or (drop i s) 2 0) _ a b)))

      pub decoded_four : (w : ℕ) → w ≡ get_or (drop i s) 3 0 → 0xF0 ≤ get_or s i 0 → get_or s i 0 < 0xF8 → r ≡ four (get_or s i 0) y z w
          → Decoded (drop i s) r
      decoded_four w ew a b f =
          at_first (f ∙ rw (ey, ez, ew) (sym (first4 (get_or s i 0) (get_or (drop i s) 1 0) (get_or (drop i s) 2 0) (get_or (drop i s) 3 0) a b)))

-- ---- a character of two bytes, by itself

pair_sum : (x y a b : ℕ) → 0xC2 ≤ x → x ≤ 0xDF → a ≡ x % 32 → b ≡ y % 64 → (x % 32 * 64 + y % 64 ≡ a * 64 + b) × ((0x80 ≤ a * 64 + b) × (a * 64 + b ≤ 0x7FF))
pair_sum x y a b low most ea eb =
    let l : 2 ≤ a = omega arith in
    let h : a ≤ 31 = omega arith in
    let k : b ≤ 63 = omega arith in
    (rw (ea, eb), (omega arith, omega arith))

pub pair_there : (s : List ℕ) (i : ℕ) → i < length s → (y : ℕ) → y ≡ get_or (drop i s) 1 0 → 0xC2 ≤ get_or s i 0 → get_or s i 0 ≤ 0xDF → is_tail y ≡ true
    → (a b : ℕ) → a ≡ get_or s i 0 % 32 → b ≡ y % 64 → Paired (drop i s) (a * 64 + b)
pair_there s i h y ey low most t a b ea eb n =
    let w = pair_sum (get_or s i 0) y a b low most ea eb in
    let f : Decoded (drop i s) (char_of 2 (get_or s i 0 % 32 * 64 + y % 64)) = decoded_two s i h _ y ey (omega (arith, low)) (omega (arith, most)) (pair_two (get_or s i 0) y low most t) in
    (subst (λ (c : ℕ). Decoded (drop i s) (char_of 2 c)) w.0 f, w.1)

-- it has two bytes
pub pair_len : (s : List ℕ) (r : ℕ) → Paired s r → (r ≡ 0 → ⊥) → 2 ≡ (decoded s).len
pair_len s r p n = ap (λ (c : Char). c.len) (decoded_one s (char_of 2 r) (p n).0)
