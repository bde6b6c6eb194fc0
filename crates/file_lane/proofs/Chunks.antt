-- A chunk whose low bytes are a word's begins with that word. Assumes nothing.
use mathlib.Core.Path.{◌≡◌, refl, sym, ◌∙◌, ap, ap₂}
use mathlib.Core.List.{List, [], ◌∷◌, ◌++◌}
use Prim.Native.Nat.{ℕ, suc, ◌+◌, ◌*◌, ◌-◌, ◌/◌, ◌%◌, ◌^◌, ◌<◌}
use native.Mathlib.Nat.{pow-suc, mul_comm, mod-le, mod-one, one-le-pow}
use native.Mathlib.Omega.{arith}
use lib.ListN.{length, take, drop}
use lib.Arith.{digits_mod, digits_div, mod-mul}
use lib.Bits.{bit_and, and_mask}
use Rattle.text.specs.Lists.{Each}
use Rattle.text.specs.Little.{little, Byte, Loaded}
use Rattle.file_nodes.specs.mirror.Kept.{Inked}

low_digit : (x m p : ℕ) → x < 256 → 0 < p → (x + 256 * m) % (256 * p) ≡ x + 256 * (m % p)
low_digit x m p h hp =
    let e : x + 256 * m ≡ m * 256 + x = omega arith in
    let a : (m * 256 + x) % 256 ≡ x = digits_mod m h in
    let b : (m * 256 + x) / 256 ≡ m = digits_div m h in
    let c : (m * 256 + x) % (p * 256) ≡ ((m * 256 + x) / 256 % p) * 256 + (m * 256 + x) % 256 = mod-mul (m * 256 + x) hp (omega arith) in
    let d : ((m * 256 + x) / 256 % p) * 256 + (m * 256 + x) % 256 ≡ (m % p) * 256 + x = ap₂ (λ (i j : ℕ). (i % p) * 256 + j) b a in
    let f : (m % p) * 256 + x ≡ x + 256 * (m % p) = omega arith in
    ap₂ (λ (i j : ℕ). i % j) e (mul_comm 256 p) ∙ c ∙ d ∙ f

pub begins_with : (ys l : List ℕ) → Each Inked ys → Each Byte l → little l % 256 ^ length ys ≡ little ys → take (length ys) l ≡ ys
unfolding little
begins_with [] l g b e = refl
begins_with (y ∷ ys) [] g b e = absurd (omega (arith, g.0.0, mod-le 0 (256 ^ length (y ∷ ys))))
begins_with (y ∷ ys) (x ∷ l) g b e =
    let p : 256 ^ suc (length ys) ≡ 256 * 256 ^ length ys = pow-suc 256 (length ys) ∙ mul_comm (256 ^ length ys) 256 in
    let f : x + 256 * (little l % 256 ^ length ys) ≡ y + 256 * little ys = sym (low_digit x (little l) (256 ^ length ys) b.0 (one-le-pow (length ys) 256 (omega arith))) ∙ ap (λ (n : ℕ). (x + 256 * little l) % n) (sym p) ∙ e in
    let hx : x < 256 = b.0 in
    let hy : y < 256 = g.0.1 in
    let q : x ≡ y = omega arith in
    let r : little l % 256 ^ length ys ≡ little ys = omega arith in
    ap₂ (λ (a : ℕ) (c : List ℕ). a ∷ c) q (begins_with ys l g.1 b.1 r)

-- what the code tests: x under the mask of n bytes is the word's number
masked : (x n b : ℕ) (ys : List ℕ) → n ≡ 256 ^ length ys - 1 → 256 ^ length ys ≡ 2 ^ (8 * length ys) → bit_and x n ≡ b → b ≡ little ys → x % 256 ^ length ys ≡ little ys
masked x n b ys en ep e eb =
    let f : n ≡ 2 ^ (8 * length ys) - 1 = en ∙ ap (λ (p : ℕ). p - 1) ep in
    ap (λ (p : ℕ). x % p) ep ∙ sym (and_mask x (8 * length ys)) ∙ ap (bit_and x) (sym f) ∙ e ∙ eb

pub starts_with : (ys s : List ℕ) (at x n b : ℕ) → Loaded 8 s at x → Each Inked ys → n ≡ 256 ^ length ys - 1 → 256 ^ length ys ≡ 2 ^ (8 * length ys) → bit_and x n ≡ b → b ≡ little ys
    → take (length ys) (take 8 (drop at s)) ≡ ys
starts_with ys s at x n b h g en ep e eb = begins_with ys (take 8 (drop at s)) g h.bytes (ap (λ (m : ℕ). m % 256 ^ length ys) (sym h.is) ∙ masked x n b ys en ep e eb)

-- and back
pub front_digits : (ys u : List ℕ) → Each Inked ys → little (ys ++ u) % 256 ^ length ys ≡ little ys
unfolding little
front_digits [] u g = mod-one (little u)
front_digits (y ∷ ys) u g =
    let p : 256 ^ suc (length ys) ≡ 256 * 256 ^ length ys = pow-suc 256 (length ys) ∙ mul_comm (256 ^ length ys) 256 in
    ap (λ (n : ℕ). (y + 256 * little (ys ++ u)) % n) p
    ∙ low_digit y (little (ys ++ u)) (256 ^ length ys) g.0.1 (one-le-pow (length ys) 256 (omega arith))
    ∙ ap (λ (n : ℕ). y + 256 * n) (front_digits ys u g.1)

pub masked_back : (x n : ℕ) (ys u : List ℕ) → x ≡ little (ys ++ u) → Each Inked ys → n ≡ 256 ^ length ys - 1 → 256 ^ length ys ≡ 2 ^ (8 * length ys) → bit_and x n ≡ little ys
masked_back x n ys u ex g en ep =
    let f : n ≡ 2 ^ (8 * length ys) - 1 = en ∙ ap (λ (p : ℕ). p - 1) ep in
    ap (bit_and x) f ∙ and_mask x (8 * length ys) ∙ ap (λ (p : ℕ). x % p) (sym ep) ∙ ap (λ (z : ℕ). z % 256 ^ length ys) ex ∙ front_digits ys u g
