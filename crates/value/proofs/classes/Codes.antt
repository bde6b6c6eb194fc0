-- Account numbers and currencies, byte by byte. Assumes nothing.
use mathlib.Core.Path.{◌≡◌, sym, ◌∙◌, ap, subst}
use mathlib.Core.Bool.{Bool, true}
use mathlib.Core.List.{List, [], ◌∷◌, ◌++◌}
use Prim.Native.Nat.{ℕ, suc, ◌+◌, ◌≤◌, ◌<◌}
use native.Mathlib.Omega.{arith}
use lib.ListN.{length, get_or, take, drop, length-append, length-drop, take-append-drop}
use lib.Seq.{take_at, drop_at, drop-drop, length-take-le}
use borrow.Author.Tests.{lt-ltb, le-ltb}
use Rattle.text.specs.Bytes.{is_capital, is_digit}
use Rattle.text.specs.Lists.{Each, All}
use Rattle.value.specs.types.Code.{Iban, is_letter_or_digit}
use Rattle.value.specs.mirror.Layout.{iban_at}
use Rattle.value.specs.Judged.{Exactly}
use Rattle.std.specs.Prelude.{EachIndex}
use Rattle.value.proofs.classes.Loops.{From, places_from, from_places}
use Rattle.value.proofs.classes.Classes.{each_all, each_append}

-- ---- the places of an account number
module _ (i b : ℕ) where
  pub iban_country : i < 2 → iban_at i b ≡ is_capital b
  unfolding iban_at
  iban_country h = rw (lt-ltb i 2 h)

  pub iban_check : 2 ≤ i → i < 4 → iban_at i b ≡ is_digit b
  unfolding iban_at
  iban_check h k = rw (le-ltb i 2 h, lt-ltb i 4 k)

  pub iban_rest : 4 ≤ i → iban_at i b ≡ is_letter_or_digit b
  unfolding iban_at
  iban_rest h = rw (le-ltb i 2 (omega arith), le-ltb i 4 h)

pub iban_least : (t : List ℕ) → Iban t → 5 ≤ length t
iban_least t w = w.lengths.0

pub iban_most : (t : List ℕ) → Iban t → length t ≤ 34
iban_most t w = w.lengths.1

-- from the place i on, all of one class
tail_from : (i : ℕ) (t : List ℕ) → 4 ≤ i → All is_letter_or_digit t → From iban_at i t
tail_from i [] h a = tt
tail_from i (x ∷ t) h a = (iban_rest i x h ∙ a.0, tail_from (suc i) t (omega arith) a.1)

tail_to : (i : ℕ) (t : List ℕ) → 4 ≤ i → From iban_at i t → All is_letter_or_digit t
tail_to i [] h a = tt
tail_to i (x ∷ t) h a = (sym (iban_rest i x h) ∙ a.0, tail_to (suc i) t (omega arith) a.1)

pub iban_from : (t : List ℕ) → Iban t → From iban_at 0 t
iban_from [] w = tt
iban_from (a ∷ []) w = absurd (omega (arith, w.lengths.0))
iban_from (a ∷ b ∷ []) w = absurd (omega (arith, w.lengths.0))
iban_from (a ∷ b ∷ c ∷ []) w = absurd (omega (arith, w.lengths.0))
iban_from (a ∷ b ∷ c ∷ d ∷ t) w =
    let p = w.capitals in
    let q = w.digits in
    (iban_country 0 a (omega arith) ∙ p.0, (iban_country 1 b (omega arith) ∙ p.1.0, (iban_check 2 c (omega arith) (omega arith) ∙ q.0, (iban_check 3 d (omega arith) (omega arith) ∙ q.1.0, tail_from 4 t (omega arith) w.class))))

-- what holds of capitals, of digits and of letters or digits holds of each of its characters
pub iban_each : (P : ℕ → Type 0) → ((x : ℕ) → is_capital x ≡ true → P x) → ((x : ℕ) → is_digit x ≡ true → P x) → ((x : ℕ) → is_letter_or_digit x ≡ true → P x) → (t : List ℕ) → Iban t → Each P t
iban_each P f g h t w =
    let s = each_append P (take 2 (drop 2 t)) (drop 2 (drop 2 t)) (each_all is_digit P g (take 2 (drop 2 t)) w.digits) (subst (Each P) (sym (drop-drop 2 2 t)) (each_all is_letter_or_digit P h (drop 4 t) w.class)) in
    subst (Each P) (take-append-drop 2 t) (each_append P (take 2 t) (drop 2 t) (each_all is_capital P f (take 2 t) w.capitals) (subst (Each P) (take-append-drop 2 (drop 2 t)) s))

pub iban_to : (t : List ℕ) → 5 ≤ length t → length t ≤ 34 → From iban_at 0 t → Iban t
iban_to [] h k f = absurd (omega arith)
iban_to (a ∷ []) h k f = absurd (omega arith)
iban_to (a ∷ b ∷ []) h k f = absurd (omega arith)
iban_to (a ∷ b ∷ c ∷ []) h k f = absurd (omega arith)
iban_to (a ∷ b ∷ c ∷ d ∷ t) h k f =
    record {
      lengths = (h, k);
      capitals = (sym (iban_country 0 a (omega arith)) ∙ f.0, (sym (iban_country 1 b (omega arith)) ∙ f.1.0, tt));
      digits = (sym (iban_check 2 c (omega arith) (omega arith)) ∙ f.1.1.0, (sym (iban_check 3 d (omega arith) (omega arith)) ∙ f.1.1.1.0, tt));
      class = tail_to 4 t (omega arith) f.1.1.1.1;
    }

pub iban_exactly : (t : List ℕ) (r : Bool) → 5 ≤ length t → length t ≤ 34 → Exactly r (EachIndex t (λ i. iban_at i (get_or t i 0) ≡ true)) → Exactly r (Iban t)
iban_exactly t r h k e = (λ y. iban_to t h k (places_from iban_at t (e.0 y)), λ w. e.1 (from_places iban_at t (iban_from t w)))

-- ---- an account number by its three parts: the same, both ways
pub record Account (cs : List ℕ) : Type 0 where
  pub country : List ℕ
  pub check : List ℕ
  pub rest : List ℕ
  pub is : cs ≡ country ++ (check ++ rest)
  pub capitals : (length country ≡ 2) × All is_capital country
  pub digits : (length check ≡ 2) × All is_digit check
  pub lengths : (1 ≤ length rest) × (length rest ≤ 30)
  pub class : All is_letter_or_digit rest

pub iban_parts : (t : List ℕ) → Iban t → Account t
iban_parts t w =
    record {
      country = take 2 t;
      check = take 2 (drop 2 t);
      rest = drop 4 t;
      is = sym (ap (λ (r : List ℕ). take 2 t ++ (take 2 (drop 2 t) ++ r)) (sym (drop-drop 2 2 t)) ∙ ap (λ (r : List ℕ). take 2 t ++ r) (take-append-drop 2 (drop 2 t)) ∙ take-append-drop 2 t);
      capitals = (length-take-le 2 t (omega (arith, w.lengths.0)), w.capitals);
      digits = (length-take-le 2 (drop 2 t) (omega (arith, w.lengths.0, length-drop 2 t)), w.digits);
      lengths = (omega (arith, w.lengths.0, length-drop 4 t), omega (arith, w.lengths.1, length-drop 4 t));
      class = w.class;
    }

module _ (t : List ℕ) (i : Account t) where
  behind : drop 2 t ≡ i.check ++ i.rest
  behind = ap (drop 2) i.is ∙ drop_at i.country (i.check ++ i.rest) 2 i.capitals.0

  tail : drop 4 t ≡ i.rest
  tail = sym (drop-drop 2 2 t) ∙ ap (drop 2) behind ∙ drop_at i.check i.rest 2 i.digits.0

  long : length t ≡ 4 + length i.rest
  long = omega (arith, i.capitals.0, i.digits.0, ap length i.is, length-append i.country (i.check ++ i.rest), length-append i.check i.rest)

  pub parts_iban : Iban t
  parts_iban = record {
    lengths = (omega (arith, long, i.lengths.0), omega (arith, long, i.lengths.1));
    capitals = subst (All is_capital) (sym (ap (take 2) i.is ∙ take_at i.country (i.check ++ i.rest) 2 i.capitals.0)) i.capitals.1;
    digits = subst (All is_digit) (sym (ap (take 2) behind ∙ take_at i.check i.rest 2 i.digits.0)) i.digits.1;
    class = subst (All is_letter_or_digit) (sym tail) i.class;
  }
