-- Bytes as a number, the first the least. Assumes nothing.
use Rattle.std.proofs.Common.{◌≡◌, ℕ, zero, suc, ◌+◌, ◌*◌, ◌^◌, ◌<◌, ◌≤◌, List, [], ◌∷◌, ◌++◌, length, get_or, take, drop, sym, refl, ap, ◌∙◌, subst, ap₂, mul_assoc, pow-suc, arith, drop_of_length-le, drop-cons, drop-drop, take-add, take-take, w64, ◌-◌}
use native.Mathlib.Decide.{dec_lt}
use Rattle.std.specs.Int.{from_le_bytes}
use lib.Bits.{bit_and, and_block, and_lt, and_zero_l}
use lib.ListN.{get_or-eq_default}
use lib.Seq.{take-nil}
use Rattle.text.specs.Lists.{Each}
use Rattle.text.specs.Little.{little, Byte, Loaded}

-- a byte off the front, which is 0 after the end
module _ (k : ℕ) (s : List ℕ) (at : ℕ) where
  none : (at < length s → ⊥) → (i : ℕ) → at ≤ i → drop i s ≡ []
  none h i g = drop_of_length-le s {i = i} (omega arith)

  little_one : little (take (suc k) (drop at s)) ≡ get_or s at 0 + 256 * little (take k (drop (suc at) s))
  unfolding little
  little_one = elim (dec_lt at (length s)) [
    | yes h ↦ rw (drop-cons s at 0 h)
    | no h ↦
        let a : drop at s ≡ [] = none h at (omega arith) in
        let b : drop (suc at) s ≡ [] = none h (suc at) (omega arith) in
        let c : get_or s at 0 ≡ 0 = get_or-eq_default s 0 {n = at} (omega arith) in
        rw (a, b, c, take-nil {A = ℕ} k)
  ]

  bytes_one : get_or s at 0 < 256 → Each Byte (take k (drop (suc at) s)) → Each Byte (take (suc k) (drop at s))
  bytes_one b e = elim (dec_lt at (length s)) [
    | yes h ↦ subst (λ (l : List ℕ). Each Byte (take (suc k) l)) (sym (drop-cons s at 0 h)) (b, e)
    | no h ↦ subst (λ (l : List ℕ). Each Byte (take (suc k) l)) (sym (none h at (omega arith))) tt
  ]

  pub loaded_one : (b n m : ℕ) → b ≡ get_or s at 0 → b < 256 → Loaded k s (suc at) m → n ≡ b + 256 * m → Loaded (suc k) s at n
  loaded_one b n m e h l i = record {
    is = let w = little_one in let j = l.is in i ∙ omega (arith, w, j, e);
    bytes = bytes_one (subst (λ (x : ℕ). x < 256) e h) l.bytes;
  }

loaded_none : (s : List ℕ) (at : ℕ) → Loaded 0 s at 0
unfolding little
loaded_none s at = record { is = refl; bytes = tt }

-- the four bytes there
abbrev pub four_at : List ℕ → ℕ → List ℕ
four_at s at = get_or s at 0 ∷ get_or s (at + 1) 0 ∷ get_or s (at + 1 + 1) 0 ∷ get_or s (at + 1 + 1 + 1) 0 ∷ []

pub load_four : (s : List ℕ) (at n : ℕ) → n ≡ little (four_at s at) → Each Byte (four_at s at) → Loaded 4 s at n
unfolding little
load_four s at n e h =
    let i1 : suc at ≡ at + 1 = omega arith in
    let i2 : suc (suc at) ≡ at + 1 + 1 = omega arith in
    let i3 : suc (suc (suc at)) ≡ at + 1 + 1 + 1 = omega arith in
    let a = get_or s at 0 in
    let b = get_or s (at + 1) 0 in
    let c = get_or s (at + 1 + 1) 0 in
    let d = get_or s (at + 1 + 1 + 1) 0 in
    let w = loaded_one 0 s (suc (suc (suc at))) d d 0 (sym (ap (λ (m : ℕ). get_or s m 0) i3)) h.1.1.1.0 (loaded_none s (suc (suc (suc (suc at))))) (omega arith) in
    let x = loaded_one 1 s (suc (suc at)) c (c + 256 * d) d (sym (ap (λ (m : ℕ). get_or s m 0) i2)) h.1.1.0 w refl in
    let y = loaded_one 2 s (suc at) b (b + 256 * (c + 256 * d)) (c + 256 * d) (sym (ap (λ (m : ℕ). get_or s m 0) i1)) h.1.0 x refl in
    let z : n ≡ a + 256 * (b + 256 * (c + 256 * d)) = e ∙ omega arith in
    loaded_one 3 s at a n (b + 256 * (c + 256 * d)) refl h.0 y z

each_append : (P : ℕ → Type 0) (a b : List ℕ) → Each P a → Each P b → Each P (a ++ b)
each_append P [] b h g = g
each_append P (x ∷ a) b h g = (h.0, each_append P a b h.1 g)

-- four and four
little_eight : (s : List ℕ) (at : ℕ) → little (take 8 (drop at s)) ≡ little (take 4 (drop at s)) + 4294967296 * little (take 4 (drop (suc (suc (suc (suc at)))) s))
unfolding little
little_eight s at =
    let w = little_one 7 s at in
    let x = little_one 6 s (suc at) in
    let y = little_one 5 s (suc (suc at)) in
    let z = little_one 4 s (suc (suc (suc at))) in
    let w' = little_one 3 s at in
    let x' = little_one 2 s (suc at) in
    let y' = little_one 1 s (suc (suc at)) in
    let z' = little_one 0 s (suc (suc (suc at))) in
    let o : little (take 0 (drop (suc (suc (suc (suc at)))) s)) ≡ 0 = refl in
    omega (arith, w, x, y, z, w', x', y', z')

pub load_eight : (s : List ℕ) (at a b n : ℕ) → Loaded 4 s at a → Loaded 4 s (at + 4) b → n ≡ a + 4294967296 * b → Loaded 8 s at n
load_eight s at a b n x y e =
    let i : at + 4 ≡ suc (suc (suc (suc at))) = omega arith in
    let f : b ≡ little (take 4 (drop (suc (suc (suc (suc at)))) s)) = y.is ∙ ap (λ (m : ℕ). little (take 4 (drop m s))) i in
    let g = little_eight s at in
    let h : drop 4 (drop at s) ≡ drop (at + 4) s = drop-drop 4 at s in
    record {
      is = e ∙ omega (arith, x.is, f, g);
      bytes = subst (Each Byte) (sym (take-add 4 4 (drop at s))) (each_append Byte (take 4 (drop at s)) (take 4 (drop 4 (drop at s))) x.bytes (subst (λ (l : List ℕ). Each Byte (take 4 l)) (sym h) y.bytes));
    }

-- the same eight bytes, four by four
pub load_eights : (s : List ℕ) (at a b n : ℕ) → a ≡ little (four_at s at) → Each Byte (four_at s at)
    → b ≡ little (four_at s (at + 1 + 1 + 1 + 1)) → Each Byte (four_at s (at + 1 + 1 + 1 + 1)) → n ≡ a + 4294967296 * b → Loaded 8 s at n
load_eights s at a b n e h f g i =
    let j : at + 1 + 1 + 1 + 1 ≡ at + 4 = omega arith in
    load_eight s at a b n (load_four s at a e h) (subst (λ (m : ℕ). Loaded 4 s m b) j (load_four s (at + 1 + 1 + 1 + 1) b f g)) i

-- the library's number of eight bytes, of which each is in range
bytes_of : (k : ℕ) (s : List ℕ) (at : ℕ) → ((i : ℕ) → get_or s i 0 < 256) → Each Byte (take k (drop at s))
bytes_of zero s at h = tt
bytes_of (suc k) s at h = bytes_one k s at (h at) (bytes_of k s (suc at) h)

little_all : (l : List ℕ) → from_le_bytes w64 l ≡ little (take 8 l)
unfolding little
little_all l =
    let a = little_one 7 l 0 in
    let b = little_one 6 l 1 in
    let c = little_one 5 l 2 in
    let d = little_one 4 l 3 in
    let e = little_one 3 l 4 in
    let f = little_one 2 l 5 in
    let g = little_one 1 l 6 in
    let h = little_one 0 l 7 in
    let o : little (take 0 (drop 8 l)) ≡ 0 = refl in
    omega (arith, a, b, c, d, e, f, g, h)

pub load_all : (s l : List ℕ) (at n : ℕ) → ((i : ℕ) → get_or s i 0 < 256) → l ≡ take 8 (take (at + 8 - at) (drop at s)) → n ≡ from_le_bytes w64 l → Loaded 8 s at n
load_all s l at n h e f =
    let g : at + 8 - at ≡ 8 = omega arith in
    let m : l ≡ take 8 (drop at s) = e ∙ ap (λ (k : ℕ). take 8 (take k (drop at s))) g ∙ take-take 8 8 (drop at s) (omega arith) in
    record {
      is = f ∙ little_all l ∙ ap (λ (x : List ℕ). little (take 8 x)) m ∙ ap little (take-take 8 8 (drop at s) (omega arith));
      bytes = bytes_of 8 s at h;
    }

-- near the end, counted from a place on
pub load_near : (s : List ℕ) (at j a b c d n : ℕ) → a ≡ get_or s (at + j) 0 → b ≡ get_or s (at + (j + 1)) 0 → c ≡ get_or s (at + (j + 1 + 1)) 0 → d ≡ get_or s (at + (j + 1 + 1 + 1)) 0
    → n ≡ little (a ∷ b ∷ c ∷ d ∷ []) → Each Byte (a ∷ b ∷ c ∷ d ∷ []) → Loaded 4 s (at + j) n
load_near s at j a b c d n ea eb ec ed e h =
    let i1 : at + (j + 1) ≡ at + j + 1 = omega arith in
    let i2 : at + (j + 1 + 1) ≡ at + j + 1 + 1 = omega arith in
    let i3 : at + (j + 1 + 1 + 1) ≡ at + j + 1 + 1 + 1 = omega arith in
    let fb : b ≡ get_or s (at + j + 1) 0 = eb ∙ ap (λ (m : ℕ). get_or s m 0) i1 in
    let fc : c ≡ get_or s (at + j + 1 + 1) 0 = ec ∙ ap (λ (m : ℕ). get_or s m 0) i2 in
    let fd : d ≡ get_or s (at + j + 1 + 1 + 1) 0 = ed ∙ ap (λ (m : ℕ). get_or s m 0) i3 in
    let p : a ∷ b ∷ c ∷ d ∷ [] ≡ four_at s (at + j) = rw (ea, fb, fc, fd) in
    load_four s (at + j) n (e ∙ ap little p) (subst (Each Byte) p h)

pub four_near : (s : List ℕ) (at a : ℕ) → Loaded 4 s (at + 0) a → Loaded 4 s at a
four_near s at a x = let i : at + 0 ≡ at = omega arith in subst (λ (m : ℕ). Loaded 4 s m a) i x

pub eight_near : (s : List ℕ) (at j a b n : ℕ) → Loaded 4 s (at + j) a → Loaded 4 s (at + (j + 4)) b → n ≡ a + 4294967296 * b → Loaded 8 s (at + j) n
eight_near s at j a b n x y e = let i : at + (j + 4) ≡ at + j + 4 = omega arith in load_eight s (at + j) a b n x (subst (λ (m : ℕ). Loaded 4 s m b) i y) e

pub eight_here : (s : List ℕ) (at a : ℕ) → Loaded 8 s (at + 0) a → Loaded 8 s at a
eight_here s at a x = let i : at + 0 ≡ at = omega arith in subst (λ (m : ℕ). Loaded 8 s m a) i x

-- past the end
pub loaded_past : (k : ℕ) (s : List ℕ) (at : ℕ) → length s ≤ at → Loaded k s at 0
unfolding little
loaded_past k s at h =
    let e : take k (drop at s) ≡ [] = ap (take k) (drop_of_length-le s {i = at} h) ∙ take-nil {A = ℕ} k in
    record { is = sym (ap little e); bytes = subst (Each Byte) (sym e) tt }

-- ---- the same byte again and again

abbrev pub repeated : ℕ → ℕ → ℕ
repeated b zero = 0
repeated b (suc n) = b + 256 * repeated b n

shed : (x b p r s t : ℕ) → x < 256 → b < 256 → p * 256 + (b + 256 * r) ≡ x + 256 * s + t * 256 → (x ≡ b) × (p + r ≡ s + t)
shed x b p r s t g h e = (omega arith, omega arith)

factor : (c q : ℕ) → c * 256 ^ suc q ≡ c * 256 ^ q * 256
factor c q = ap (λ (y : ℕ). c * y) (pow-suc 256 q) ∙ sym (mul_assoc c (256 ^ q) 256)

alike_one : (b : ℕ) → b < 256 → (n q c e x : ℕ) (l : List ℕ) → Each Byte (x ∷ l) → c * 256 ^ suc q + repeated b (suc n) ≡ little (x ∷ l) + e * 256 ^ suc n
    → (x ≡ b) × (c * 256 ^ q + repeated b n ≡ little l + e * 256 ^ n)
unfolding little
alike_one b v n q c e x l h w =
    shed x b (c * 256 ^ q) (repeated b n) (little l) (e * 256 ^ n) h.0 v
    (ap (λ (y : ℕ). y + (b + 256 * repeated b n)) (sym (factor c q)) ∙ w ∙ ap (λ (y : ℕ). x + 256 * little l + y) (factor e n))

-- a number that is n times the byte b but for a multiple of 256 to the q, begins with q of them
pub begins_alike : (b : ℕ) → b < 256 → (n q c e : ℕ) (l : List ℕ) → length l ≡ n → q ≤ n → Each Byte l
    → c * 256 ^ q + repeated b n ≡ little l + e * 256 ^ n → (k : ℕ) → k < q → get_or l k 0 ≡ b
unfolding little
begins_alike b v n zero c e l g i h w k j = absurd (omega arith)
begins_alike b v zero (suc q) c e l g i h w k j = absurd (omega arith)
begins_alike b v (suc n) (suc q) c e [] g i h w k j = absurd (omega arith)
begins_alike b v (suc n) (suc q) c e (x ∷ l) g i h w zero j = (alike_one b v n q c e x l h w).0
begins_alike b v (suc n) (suc q) c e (x ∷ l) g i h w (suc k) j =
    begins_alike b v n q c e l (omega arith) (omega arith) h.1 (alike_one b v n q c e x l h w).1 k (omega arith)

-- ---- the same bits of each byte

masked_one : (b : ℕ) → b < 256 → (n q c x : ℕ) (l : List ℕ) → Each Byte (x ∷ l) → bit_and (little (x ∷ l)) (repeated b (suc n)) ≡ c * 256 ^ suc q
    → (bit_and x b ≡ 0) × (bit_and (little l) (repeated b n) ≡ c * 256 ^ q)
unfolding little
masked_one b v n q c x l h w =
    let a : x + 256 * little l ≡ little l * 2 ^ 8 + x = omega arith in
    let e : b + 256 * repeated b n ≡ repeated b n * 2 ^ 8 + b = omega arith in
    let f = ap₂ bit_and a e ∙ and_block 8 (little l) (repeated b n) x b h.0 v in
    let g = sym f ∙ w ∙ factor c q in
    shed_none (bit_and x b) (bit_and (little l) (repeated b n)) (c * 256 ^ q) (and_lt 8 x b h.0 v) g
  where
    shed_none : (y m p : ℕ) → y < 256 → m * 256 + y ≡ p * 256 → (y ≡ 0) × (m ≡ p)
    shed_none y m p g e = (omega arith, omega arith)

-- where the bits of n bytes are a multiple of 256 to the q, the first q bytes have none of them
pub begins_masked : (b : ℕ) → b < 256 → (n q c : ℕ) (l : List ℕ) → q ≤ n → Each Byte l → bit_and (little l) (repeated b n) ≡ c * 256 ^ q
    → (k : ℕ) → k < q → (get_or l k 0 < 256) × (bit_and (get_or l k 0) b ≡ 0)
unfolding little
begins_masked b v n zero c l i h w k j = absurd (omega arith)
begins_masked b v zero (suc q) c l i h w k j = absurd (omega arith)
begins_masked b v (suc n) (suc q) c [] i h w k j = (omega arith, and_zero_l b)
begins_masked b v (suc n) (suc q) c (x ∷ l) i h w zero j = (h.0, (masked_one b v n q c x l h w).0)
begins_masked b v (suc n) (suc q) c (x ∷ l) i h w (suc k) j =
    begins_masked b v n q c l (omega arith) h.1 (masked_one b v n q c x l h w).1 k (omega arith)
