-- The classes of REF and TXT. Assumes nothing.
use mathlib.Core.Path.{◌≡◌, refl, sym, ◌∙◌}
use mathlib.Core.Bool.{true, false}
use mathlib.Core.Logic.{◌≢◌}
use Prim.Native.Nat.{ℕ}
use native.Mathlib.Omega.{arith}
use Rattle.text.specs.Bytes.{is_letter, is_digit}
use Rattle.text_characters.specs.Utf8.{Scalar}
use Rattle.text.proofs.Classes.{letter, digit}
use Rattle.value.specs.types.Text.{is_txt, is_ref}
use Rattle.value.specs.mirror.Texts.{quiet_ref}
use Rattle.value.proofs.classes.Computed.{low, besides, quiet_ref_lem, txt_low}

-- digits and letters are characters of a reference, and no slash
pub digit_word : (x : ℕ) → is_digit x ≡ true → true ≡ quiet_ref x
unfolding is_digit is_ref
digit_word x e = sym (besides is_digit quiet_ref 128 refl x (low digit 128 refl x e) e)

pub letter_word : (x : ℕ) → is_letter x ≡ true → true ≡ quiet_ref x
unfolding is_letter is_ref
letter_word x e = sym (besides is_letter quiet_ref 128 refl x (low letter 128 refl x e) e)

-- there is no other but the slash
pub no_word : (x : ℕ) → quiet_ref x ≡ false → x ≢ 47 → is_ref x ≡ false
no_word x e n = sym (quiet_ref_lem x n) ∙ e

-- the characters of a text are scalar values
pub txt_scalar : (x : ℕ) → is_txt x ≡ true → Scalar x
txt_scalar x e = let h = txt_low x e in record { below = omega arith; outside = omega arith }
