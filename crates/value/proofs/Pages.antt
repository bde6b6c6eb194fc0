-- The class of a text's characters and its lookup are one: a computed test over the pages whose words are not 0, a law for all other code
-- points; the same of its quiet bytes, and of a reference's. Assumes nothing.
use mathlib.Core.Path.{◌≡◌, refl, sym, ◌∙◌}
use mathlib.Core.Bool.{Bool, true, false, ◌&&◌, beq, false≢true}
use mathlib.Core.List.{List}
use mathlib.Core.Logic.{◌≢◌}
use Prim.Native.Nat.{ℕ, ◌+◌, ◌/◌, ◌%◌, ◌≤◌, ◌<◌}
use native.Mathlib.Nat.{zero-div}
use native.Mathlib.Omega.{arith}
use native.Mathlib.Decide.{dec_lt, ℕ_discrete}
use lib.ListN.{length, get_or-eq_default}
use borrow.Author.Tests.{le-ltb, lt-ltb, ne_eqb}
use Rattle.text.proofs.Classes.{every, passes, and_is, no as none}
use Rattle.value.specs.types.Text.{is_txt, is_ref}
use Rattle.value.specs.mirror.Texts.{is_ascii_txt, quiet_txt, quiet_ref}
use Rattle.value.specs.mirror.Pages.{bit_of, word_in, words, word_of, looked, quiet_words, ref_words, looked_in}
use Rattle.value.proofs.classes.Named.{writing, reference}
use Rattle.value.proofs.classes.Computed.{quiet_far, quiet_none}

-- ---- the words, as the code finds them

pub past : (ws : List ℕ) → length ws ≡ 4 → (p : ℕ) → 4 ≤ p → 0 ≡ word_in ws p
unfolding word_in
past ws e p h = let k : length ws ≤ p = omega arith in sym (get_or-eq_default ws 0 k)

pub word_low : (c : ℕ) → c < 256 → word_in words (c / 64) ≡ word_of c
unfolding word_of
word_low c h = rw (lt-ltb c 256 h)

pub word_euro : (c : ℕ) → 256 ≤ c → c / 64 ≡ 130 → 0x0000100000000000 ≡ word_of c
unfolding word_of
word_euro c h e = rw (le-ltb c 256 h, e)

pub word_none : (c : ℕ) → 256 ≤ c → c / 64 ≢ 130 → 0 ≡ word_of c
unfolding word_of
word_none c h n = rw (le-ltb c 256 h, ne_eqb (c / 64) 130 n)

bit_none : (k : ℕ) → bit_of 0 k ≡ false
unfolding bit_of
bit_none k = rw zero-div

-- ---- tests that agree, computed

abbrev same : (ℕ → Bool) → (ℕ → Bool) → ℕ → Bool
same f g c = beq (f c) (g c)

beq_is : (a b : Bool) → beq a b ≡ true → a ≡ b
beq_is true true e = refl
beq_is true false e = absurd (false≢true e)
beq_is false true e = absurd (false≢true e)
beq_is false false e = refl

agree : (f g : ℕ → Bool) (a n : ℕ) → every (same f g) a n ≡ true → (c : ℕ) → a ≤ c → c < a + n → f c ≡ g c
agree f g a n e c h k = beq_is (f c) (g c) (passes (same f g) a n e c h k)

-- ---- characters: pages 0 to 3, and the euro's

computed : (every (same looked is_txt) 0 256 && every (same looked is_txt) 8320 64) ≡ true
unfolding looked bit_of word_of word_in is_txt
computed = refl

-- on every other page the word is 0, and no character of a text
other : (c : ℕ) → 256 ≤ c → c / 64 ≢ 130 → looked c ≡ is_txt c
unfolding looked
other c h n = rw (← word_none c h n) (bit_none (c % 64) ∙ none writing {x = c} (omega arith))

pub lookup_txt : (c : ℕ) → looked c ≡ is_txt c
lookup_txt c = go (dec_lt c 256) (ℕ_discrete (c / 64) 130)
  where
    pages : (every (same looked is_txt) 0 256 ≡ true) × (every (same looked is_txt) 8320 64 ≡ true)
    pages = and_is (every (same looked is_txt) 0 256) (every (same looked is_txt) 8320 64) computed

    go : Dec (c < 256) → Dec (c / 64 ≡ 130) → looked c ≡ is_txt c
    go (yes h) e = agree looked is_txt 0 256 pages.0 c (omega arith) (omega arith)
    go (no h) (yes e) = agree looked is_txt 8320 64 pages.1 c (omega arith) (omega arith)
    go (no h) (no e) = other c (omega arith) e

-- ---- a class of bytes: no number from 256 on is one

module _ (ws : List ℕ) (e : length ws ≡ 4) (f : ℕ → Bool) (far : (x : ℕ) → 256 ≤ x → f x ≡ false) where
  other_byte : (x : ℕ) → 256 ≤ x → looked_in ws x ≡ f x
  unfolding looked_in
  other_byte x h =
      let k : 4 ≤ x / 64 = omega arith in
      rw (← past ws e (x / 64) k) (bit_none (x % 64) ∙ sym (far x h))

  lookup_byte : every (same (looked_in ws) f) 0 256 ≡ true → (x : ℕ) → looked_in ws x ≡ f x
  lookup_byte c x = go (dec_lt x 256)
    where
      go : Dec (x < 256) → looked_in ws x ≡ f x
      go (yes h) = agree (looked_in ws) f 0 256 c x (omega arith) (omega arith)
      go (no h) = other_byte x (omega arith)

pub lookup_quiet : (x : ℕ) → looked_in quiet_words x ≡ quiet_txt x
unfolding looked_in bit_of word_in quiet_txt is_ascii_txt is_txt
lookup_quiet x = lookup_byte quiet_words refl quiet_txt (λ y h. quiet_far y (omega arith)) refl x

pub lookup_ref : (x : ℕ) → looked_in ref_words x ≡ quiet_ref x
unfolding looked_in bit_of word_in is_ref
lookup_ref x = lookup_byte ref_words refl quiet_ref (λ y h. sym (quiet_none y (none reference {x = y} (omega arith)))) refl x
