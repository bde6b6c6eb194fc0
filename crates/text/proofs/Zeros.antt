-- The zeros at a number's end, by bits and by bytes. Assumes nothing.
use Rattle.std.proofs.Common.{◌≡◌, ℕ, zero, suc, ◌+◌, ◌*◌, ◌/◌, ◌%◌, ◌^◌, sym, refl, ap, ◌∙◌, mul_assoc, pow-suc, mul-one, arith, pow-add}
use lib.Count.{count_trailing_zeros, under}
use Rattle.text.specs.mirror.Zeros.{Multiple}

zeros_bits : (k n : ℕ) → Multiple (2 ^ count_trailing_zeros k n) n
unfolding count_trailing_zeros
zeros_bits zero n = record { times = n; is = sym (mul-one n) }
zeros_bits (suc k) n = go (n % 2) refl (zeros_bits k (n / 2))
  where
    go : (r : ℕ) → n % 2 ≡ r → Multiple (2 ^ count_trailing_zeros k (n / 2)) (n / 2) → Multiple (2 ^ under r (count_trailing_zeros k (n / 2))) n
    go zero e w =
        let t = count_trailing_zeros k (n / 2) in
        let h : n ≡ n / 2 * 2 = omega arith in
        record {
          times = w.times;
          is =
              h
              ∙ ap (λ (x : ℕ). x * 2) w.is
              ∙ mul_assoc w.times (2 ^ t) 2
              ∙ ap (λ (x : ℕ). w.times * x) (sym (pow-suc 2 t));
        }
    go (suc r) e w = record { times = n; is = sym (mul-one n) }

-- eight bits make a byte
byte_bits_lem : (q : ℕ) → 2 ^ (q * 8) ≡ 256 ^ q
byte_bits_lem zero = refl
byte_bits_lem (suc q) =
    let e : suc q * 8 ≡ q * 8 + 8 = omega arith in
    ap (λ (x : ℕ). 2 ^ x) e ∙ pow-add 2 (q * 8) 8 ∙ ap (λ (x : ℕ). x * 256) (byte_bits_lem q) ∙ sym (pow-suc 256 q)

pub zeros_bytes : (k n : ℕ) → Multiple (256 ^ (count_trailing_zeros k n / 8)) n
zeros_bytes k n =
    let t = count_trailing_zeros k n in
    let w = zeros_bits k n in
    let e : t ≡ t % 8 + t / 8 * 8 = omega arith in
    let f : 2 ^ t ≡ 2 ^ (t % 8) * 256 ^ (t / 8) =
    ap (λ (x : ℕ). 2 ^ x) e ∙ pow-add 2 (t % 8) (t / 8 * 8) ∙ ap (λ (x : ℕ). 2 ^ (t % 8) * x) (byte_bits_lem (t / 8)) in
    record {
      times = w.times * 2 ^ (t % 8);
      is = w.is ∙ ap (λ (x : ℕ). w.times * x) f ∙ sym (mul_assoc w.times (2 ^ (t % 8)) (256 ^ (t / 8)));
    }
