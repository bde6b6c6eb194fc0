-- NUM: the loop over its digits. Assumes nothing.
use mathlib.Core.Path.{◌≡◌, refl, sym, ◌∙◌, ap, subst}
use mathlib.Core.Bool.{true, false}
use mathlib.Core.List.{List}
use Prim.Native.Nat.{ℕ, suc, ◌+◌, ◌*◌, ◌-◌, ◌^◌, ◌≤◌, ◌<◌}
use native.Mathlib.Nat.{pow-suc, pow-le-pow_right}
use native.Mathlib.Numerals.{add-one}
use native.Mathlib.Omega.{arith}
use lib.ListN.{length, get_or, drop, drop_of_length-le}
use lib.Seq.{drop-cons}
use Rattle.text.specs.Bytes.{is_digit}
use Rattle.list.specs.Listing.{num}
use Rattle.std.specs.Prelude.{Some, None}
use Rattle.value.specs.declared.judged.Judged.TheVariants as J
use Rattle.value.specs.types.Plain.{Num, decimal_from}
use Rattle.value.specs.Value.{Value}
use Rattle.value.specs.parts.Form.{Form}
use Rattle.value.specs.Judged.{formed, formless, FormedAny}
use Rattle.value.proofs.classes.Classes.{digit_range}
use Rattle.value.proofs.classes.Loops.{Run, run_none, run_more, run_stop, run_end, to_all, from_all}

refuse : (t w : List ℕ) → ((n : ℕ) → Num t n → ⊥) → (v : Value) → Form num w t v → ⊥
refuse t w f v (Form.count a) = f _ a

pub count_empty : (t : List ℕ) → length t ≤ 0 → FormedAny num t None
count_empty t h w cw = formless refl (refuse t w (λ n a. omega (arith, a.lengths.0)))

pub count_long : (t : List ℕ) → 18 < length t → FormedAny num t None
count_long t h w cw = formless refl (refuse t w (λ n a. omega (arith, a.lengths.1)))

-- i digits were read, and n is their number
pub record Count (t : List ℕ) (i n : ℕ) : Type 0 where
  pub run : Run (λ _ x. is_digit x) t i
  pub small : n < 10 ^ i
  pub same : decimal_from n (drop i t) ≡ decimal_from 0 t

pub count_none : (t : List ℕ) → Count t 0 0
count_none t = record { run = run_none (λ _ x. is_digit x) t; small = omega arith; same = refl }

module _ (t : List ℕ) (i n : ℕ) (c : Count t i n) where
  pub count_room : i < 18 → n < 10 ^ 17
  count_room h = omega (arith, c.small, pow-le-pow_right {n = 10} (omega arith) {i = i} {j = 17} (omega arith))

  pub count_stop : i < length t → is_digit (get_or t i 0) ≡ false → FormedAny num t None
  count_stop h e w cw = formless refl (refuse t w (λ m a. run_stop (λ _ x. is_digit x) t i c.run h e (from_all is_digit 0 t a.digits)))

  pub count_more : (d : ℕ) → i < length t → is_digit (get_or t i 0) ≡ true → d ≡ get_or t i 0 - 48 → Count t (i + 1) (n * 10 + d)
  unfolding decimal_from
  count_more d h e q =
      let r = digit_range (get_or t i 0) e in
      record {
        run = run_more (λ _ x. is_digit x) t i c.run h e;
        small = subst (λ (k : ℕ). n * 10 + d < 10 ^ k) (sym (add-one i)) (omega (arith, pow-suc 10 i, c.small));
        same = ap (λ (k : ℕ). decimal_from (n * 10 + d) (drop k t)) (add-one i) ∙ ap (λ (k : ℕ). decimal_from (n * 10 + k) (drop (suc i) t)) q ∙ ap (decimal_from n) (sym (drop-cons t i 0 h)) ∙ c.same;
      }

  pub count_end : length t ≤ i → 1 ≤ length t → length t ≤ 18 → FormedAny num t (Some (J.Natural n))
  unfolding decimal_from
  count_end h a b w cw =
      formed _ (Form.count (record { lengths = (a, b); digits = to_all is_digit 0 t (run_end (λ _ x. is_digit x) t i c.run h); is = ap (decimal_from n) (sym (drop_of_length-le t h)) ∙ c.same })) refl
