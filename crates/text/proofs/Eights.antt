-- Eight bytes a turn: a number of which so many bytes at its end are 0 as there are bytes that pass. Assumes nothing.
use Rattle.std.proofs.Common.{◌≡◌, ℕ, zero, suc, ◌+◌, ◌*◌, ◌/◌, ◌%◌, ◌^◌, ◌<◌, ◌≤◌, Bool, true, List, length, get_or, take, drop, sym, refl, ap, ◌∙◌, subst, arith, length-drop, length-take-le, get_or-drop, get_or-take}
use native.Mathlib.Nat.{mod-add-div'}
use lib.Bits.{bit_and, and_high}
use lib.Count.{trailing_le}
use Rattle.text.specs.Lists.{span}
use Rattle.text.specs.Bytes.{is_ascii, is_blank}
use Rattle.text.specs.Little.{little, Loaded}
use Rattle.text.specs.mirror.Zeros.{zero_bytes, Multiple, Tells}
use Rattle.text.proofs.Classes.{is_ascii_lem}
use Rattle.text.proofs.Spans.{span_jump}
use Rattle.text.proofs.Littles.{repeated, begins_alike, begins_masked}
use Rattle.text.proofs.Zeros.{zeros_bytes}

-- the zeros of 64 bits are eight bytes at most
pub few : (d r : ℕ) → r ≡ zero_bytes d → r ≤ 8
few d r e = omega (arith, e, trailing_le 64 d)

-- ---- a loop that has come to i: what is still to come makes up the answer n

module _ (p : ℕ → Bool) (s : List ℕ) (i d n : ℕ) (t : Tells p s i d) (w : i + span p (drop i s) ≡ n) where
  jump : (q : ℕ) → q ≤ 8 → Multiple (256 ^ q) d → i + q + span p (drop (i + q) s) ≡ n
  jump q b m = span_jump p q s i (omega (arith, t.room)) (t.passing q b m) ∙ w

  pub eights_stop : (r : ℕ) → r ≡ zero_bytes d → i + r + span p (drop (i + r) s) ≡ n
  eights_stop r e = jump r (few d r e) (subst (λ (q : ℕ). Multiple (256 ^ q) d) (sym e) (zeros_bytes 64 d))

  pub eights_again : d ≡ 0 → i + 8 + span p (drop (i + 8) s) ≡ n
  eights_again e = jump 8 (omega arith) (record { times = 0; is = e })

-- ---- eight bytes, loaded

-- a byte without its top bit
low : (y t : ℕ) → y < 256 → t ≡ y / 128 → t % 2 * 128 ≡ 0 → y < 128
low y zero b e f = omega arith
low y (suc zero) b e f = absurd (omega (arith, f))
low y (suc (suc t)) b e f = absurd (omega arith)

top_none : (y : ℕ) → y < 256 → bit_and y 128 ≡ 0 → is_ascii y ≡ true
top_none y b e = sym (is_ascii_lem y (low y (y / 128) b refl (sym (and_high y 1 7) ∙ e)))

module _ (s : List ℕ) (i x : ℕ) (l : Loaded 8 s i x) (h : i + 8 ≤ length s) where
  -- of these the byte k places after i
  there : (k : ℕ) → k < 8 → get_or s (i + k) 0 ≡ get_or (take 8 (drop i s)) k 0
  there k j = sym (get_or-take 8 (drop i s) k 0 j ∙ get_or-drop i s k 0)

  -- eight spaces, taken away from them
  module _ (d : ℕ) (w : (d + repeated 32 8) % 2 ^ 64 ≡ x) where
    same : (c q : ℕ) → d ≡ c * 256 ^ q → c * 256 ^ q + repeated 32 8 ≡ little (take 8 (drop i s)) + (d + repeated 32 8) / 2 ^ 64 * 256 ^ 8
    same c q e =
        ap (λ (y : ℕ). y + repeated 32 8) (sym e)
        ∙ sym (mod-add-div' (d + repeated 32 8) (2 ^ 64))
        ∙ ap (λ (y : ℕ). y + (d + repeated 32 8) / 2 ^ 64 * 2 ^ 64) (w ∙ l.is)

    space : (q : ℕ) → q ≤ 8 → Multiple (256 ^ q) d → (k : ℕ) → k < q → get_or s (i + k) 0 ≡ 32
    space q b m k j =
        let e : length (take 8 (drop i s)) ≡ 8 = length-take-le 8 (drop i s) (omega (arith, length-drop i s)) in
        there k (omega arith)
        ∙ begins_alike 32 (omega arith) 8 q m.times ((d + repeated 32 8) / 2 ^ 64) (take 8 (drop i s)) e b l.bytes (same m.times q m.is) k j

    pub tells_blanks : Tells is_blank s i d
    unfolding is_blank
    tells_blanks = record { room = h; passing = λ q b m k j. ap is_blank (space q b m k j) }

  -- their top bits
  pub tells_ascii : (d : ℕ) → d ≡ bit_and x (repeated 128 8) → Tells is_ascii s i d
  tells_ascii d z = record {
    room = h;
    passing = λ q b m k j.
        let e : bit_and (little (take 8 (drop i s))) (repeated 128 8) ≡ m.times * 256 ^ q = ap (λ (y : ℕ). bit_and y (repeated 128 8)) (sym l.is) ∙ sym z ∙ m.is in
        let w = begins_masked 128 (omega arith) 8 q m.times (take 8 (drop i s)) b l.bytes e k j in
        ap is_ascii (there k (omega arith)) ∙ top_none (get_or (take 8 (drop i s)) k 0) w.0 w.1;
  }
