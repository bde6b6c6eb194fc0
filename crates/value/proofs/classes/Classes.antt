-- What the classes of characters say of numbers. Assumes nothing.
use mathlib.Core.Path.{◌≡◌, sym}
use mathlib.Core.Bool.{Bool, true, false}
use mathlib.Core.List.{List, [], ◌∷◌, ◌++◌}
use mathlib.Core.Logic.{◌≢◌, ⊎_elim}
use Prim.Native.Nat.{ℕ, ◌+◌, ◌≤◌, ◌<◌}
use native.Mathlib.Omega.{arith}
use Rattle.text.specs.Bytes.{in_range, is_blank, is_capital, is_digit}
use Rattle.text.specs.Lists.{Each, All}
use Rattle.text.proofs.Classes.{from, outside, yes_in, no, is_in, digit, capital, blank}
use Rattle.value.specs.types.Code.{is_letter_or_digit}
use Rattle.value.proofs.classes.Named.{letter_or_digit}

pub in_no : (a b x : ℕ) → (a ≤ x → x ≤ b → ⊥) → in_range a b x ≡ false
in_no a b x f = outside (from a b) x f

pub digit_range : (x : ℕ) → is_digit x ≡ true → (48 ≤ x) × (x ≤ 57)
digit_range x e = is_in digit x e

pub digit_yes : (n : ℕ) → n < 10 → is_digit (48 + n) ≡ true
digit_yes n h = sym (yes_in digit {x = 48 + n} (omega arith, omega arith))

pub capital_range : (x : ℕ) → is_capital x ≡ true → (65 ≤ x) × (x ≤ 90)
capital_range x e = is_in capital x e

-- a character that is no blank and that no entity stands for: those of all kinds but REF and TXTk
pub record Solid (x : ℕ) : Type 0 where
  pub low : 43 ≤ x
  pub high : x ≤ 122
  pub less : x ≢ 60
  pub greater : x ≢ 62

pub solid_digit : (x : ℕ) → is_digit x ≡ true → Solid x
solid_digit x e = let r = digit_range x e in omega arith

pub solid_capital : (x : ℕ) → is_capital x ≡ true → Solid x
solid_capital x e = let r = capital_range x e in omega arith

pub solid_either : (x : ℕ) → is_letter_or_digit x ≡ true → Solid x
solid_either x e = ⊎_elim (⊎_elim (λ r. omega arith) (λ r. omega arith)) (λ r. omega arith) (is_in letter_or_digit x e)

pub solid_ink : (x : ℕ) → Solid x → is_blank x ≡ false
solid_ink x s = let h = s.low in sym (no blank {x = x} (((omega arith, omega arith), omega arith), omega arith))

-- ---- lists
pub each_all : (p : ℕ → Bool) (P : ℕ → Type 0) → ((x : ℕ) → p x ≡ true → P x) → (l : List ℕ) → All p l → Each P l
each_all p P f [] h = tt
each_all p P f (x ∷ l) h = (f x h.0, each_all p P f l h.1)

pub each_append : (P : ℕ → Type 0) (a b : List ℕ) → Each P a → Each P b → Each P (a ++ b)
each_append P [] b h k = k
each_append P (x ∷ a) b h k = (h.0, each_append P a b h.1 k)

pub each_map : (P Q : ℕ → Type 0) → ((x : ℕ) → P x → Q x) → (l : List ℕ) → Each P l → Each Q l
each_map P Q f [] h = tt
each_map P Q f (x ∷ l) h = (f x h.0, each_map P Q f l h.1)
