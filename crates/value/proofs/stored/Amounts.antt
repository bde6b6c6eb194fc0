-- AMT: exactly the bytes of its values. Assumes nothing.
use mathlib.Core.Path.{◌≡◌, refl, sym, ◌∙◌, ap}
use mathlib.Core.Bool.{true, ◌||◌, not}
use mathlib.Core.Logic.{inl, inr, ⊎_elim}
use mathlib.Core.List.{List, [], ◌∷◌}
use Prim.Native.Nat.{ℕ, zero, suc, ◌*◌, ◌%◌, ◌/◌, ◌^◌, ◌<◌}
use native.Mathlib.Nat.{pow-suc, mul_assoc, mul_right_comm}
use native.Mathlib.Omega.{arith}
use lib.Dec.{leb, ltb, eqb}
use lib.ListN.{length, take}
use lib.Seq.{take_all}
use borrow.Author.Tests.{leb-true, ltb-true, lt-ltb, le-leb, eqb-true, eqb-false, ne_eqb, not-true}
use Rattle.text.specs.Lists.{Each}
use Rattle.text.specs.Bytes.{is_capital}
use Rattle.text.specs.Numbers.{big_endian, number}
use Rattle.text.proofs.Classes.{and_is, or_is}
use Rattle.text.proofs.Numbers.{Byte, number_big, big_length, big_bytes, big_number_of}
use Rattle.list.specs.Listing.{amt}
use Rattle.value.specs.types.Code.{Ccy}
use Rattle.value.specs.types.Amount.{Bounded}
use Rattle.value.specs.parts.Numeral.{Smallest}
use Rattle.value.specs.Value.{Value, amount, IsValue}
use Rattle.value.proofs.classes.Classes.{capital_range}
use Rattle.value.proofs.numbers.Decimals.{least}
use Rattle.value.specs.mirror.Judges.{is_currency, is_amount}
use Rattle.value.proofs.stored.Exactly.{Stored, Passes, Exact}
use Rattle.value.proofs.stored.Listed.{or_so}
use Rattle.value.proofs.stored.texts.Codes.{currency_exactly}

-- ---- the smallest scale: 0, or the last digit is none

canon_to : (c k : ℕ) → (eqb k 0 || not (eqb (c % 10) 0)) ≡ true → Smallest c k
canon_to c k e = least c k (⊎_elim (λ h. inl (eqb-true k 0 h)) (λ h. inr (eqb-false (c % 10) 0 (not-true (eqb (c % 10) 0) h))) (or_is (eqb k 0) (not (eqb (c % 10) 0)) e))

canon_from : (c k : ℕ) → Smallest c k → (eqb k 0 || not (eqb (c % 10) 0)) ≡ true
canon_from c zero s = refl
canon_from c (suc k) s = or_so (eqb (suc k) 0) (not (eqb (c % 10) 0)) (rw (ne_eqb (c % 10) 0 shorter))
  where
    shorter : c % 10 ≡ 0 → ⊥
    shorter z =
        let e : c ≡ c / 10 * 10 = omega arith in
        let p : c / 10 * 10 ^ suc k ≡ c * 10 ^ k = ap (λ (x : ℕ). c / 10 * x) (pow-suc 10 k) ∙ sym (mul_assoc (c / 10) (10 ^ k) 10) ∙ sym (mul_right_comm (c / 10) 10 (10 ^ k)) ∙ ap (λ (x : ℕ). x * 10 ^ k) (sym e) in
        omega (arith, s (c / 10) k p)

-- ---- AMT

module _ (x y z k : ℕ) (r : List ℕ) where
  amount_sound : Each Byte (x ∷ y ∷ z ∷ k ∷ r) → length r ≡ 8 → is_amount (x ∷ y ∷ z ∷ k ∷ r) ≡ true → Stored amt (x ∷ y ∷ z ∷ k ∷ r)
  unfolding is_amount
  amount_sound b e j =
      let w = and_is (is_currency (x ∷ y ∷ z ∷ [])) _ j in
      let s = and_is (leb k 5) _ w.1 in
      let c = and_is (ltb (number (take 8 r)) (10 ^ 18)) _ s.1 in
      let t : take 8 r ≡ r = take_all 8 r (omega arith) in
      record {
        value = amount (x ∷ y ∷ z ∷ []) k (number (take 8 r));
        is = IsValue.money ((currency_exactly (x ∷ y ∷ z ∷ [])).0 w.0) (record { scale = leb-true k 5 s.0; coefficient = ltb-true (number (take 8 r)) (10 ^ 18) c.0; least = canon_to (number (take 8 r)) k c.1 });
        same = ap (λ (l : List ℕ). x ∷ y ∷ z ∷ k ∷ l) (sym (ap (λ (l : List ℕ). big_endian 8 (number l)) t ∙ big_number_of 8 r e b.1.1.1.1));
      }

amount_all : (u : List ℕ) → Each Byte u → length u ≡ 12 → is_amount u ≡ true → Stored amt u
amount_all [] b e = absurd (omega arith)
amount_all (x ∷ []) b e = absurd (omega arith)
amount_all (x ∷ y ∷ []) b e = absurd (omega arith)
amount_all (x ∷ y ∷ z ∷ []) b e = absurd (omega arith)
amount_all (x ∷ y ∷ z ∷ k ∷ r) b e = amount_sound x y z k r b (omega arith)

amount_passes : (w : List ℕ) (k c : ℕ) → Ccy w → Bounded c k → Passes 0 (λ _. 12) is_amount (amount w k c)
unfolding is_amount
amount_passes [] k c w o = absurd (omega (arith, w.three))
amount_passes (x ∷ []) k c w o = absurd (omega (arith, w.three))
amount_passes (x ∷ y ∷ []) k c w o = absurd (omega (arith, w.three))
amount_passes (x ∷ y ∷ z ∷ p ∷ q) k c w o = absurd (omega (arith, w.three))
amount_passes (x ∷ y ∷ z ∷ []) k c w o =
    let l = big_length 8 c in
    let b = o.coefficient in
    let e : number (take 8 (big_endian 8 c)) ≡ c = ap number (take_all 8 (big_endian 8 c) (omega arith)) ∙ number_big 8 c (omega arith) in
    record {
      good = rw (e, (currency_exactly (x ∷ y ∷ z ∷ [])).1 w, le-leb k 5 o.scale, lt-ltb c (10 ^ 18) b) (canon_from c k o.least);
      long = λ t. omega arith;
      small = (low x w.capitals.0, (low y w.capitals.1.0, (low z w.capitals.1.1.0, (omega (arith, o.scale), big_bytes 8 c))));
      some = omega arith;
    }
  where
    low : (x : ℕ) → is_capital x ≡ true → x < 256
    low x e = let r = capital_range x e in omega arith

amount_complete : (v : Value) → IsValue amt v → Passes 0 (λ _. 12) is_amount v
amount_complete v (IsValue.money {w = w} {k = k} {c = c} m o) = amount_passes w k c m o

pub amount_exact : Exact amt 0 (λ _. 12) is_amount
amount_exact = record { sound = amount_all; complete = amount_complete }
