-- Constructs one after the other. Assumes nothing.
use mathlib.Core.Path.{◌≡◌, ◌∙◌, subst}
use mathlib.Core.Bool.{false}
use mathlib.Core.List.{List}
use Prim.Native.Nat.{ℕ, ◌+◌, ◌≤◌, ◌<◌}
use native.Mathlib.Omega.{arith}
use lib.ListN.{length, get_or}
use Rattle.xml.specs.mirror.Auto.{At, at, next}
use Rattle.xml_scan.specs.mirror.Goes.{fate, Goes}
use Rattle.xml_scan.proofs.Fate.{fate_byte}
use Rattle.std.specs.Prelude.{Result, Ok, Err}
use Rattle.xml_pieces.specs.declared.Stopped.{Stopped}
use Rattle.xml_pieces.specs.Over.{stop}

module _ (s : List ℕ) (i : ℕ) (a : At) where
  -- what comes of it is the same from a later place
  pub goes_after : (j : ℕ) (b c : At) (r : Result ℕ Stopped) → i ≤ j → fate s i a ≡ fate s j b → Goes s j b c r → Goes s i a c r
  goes_after j b c (Ok e) h f g = (omega arith, g.1, f ∙ g.2)
  goes_after j b c (Err n) h f g = f ∙ g

  -- over a byte first
  pub goes_byte : (b c : At) (r : Result ℕ Stopped) → i < length s → next a (get_or s i 0) ≡ at b → Goes s (i + 1) b c r → Goes s i a c r
  goes_byte b c r h e g = goes_after (i + 1) b c r (omega arith) (fate_byte s i a b h e) g

  -- a construct first, which stopped at n
  pub goes_stop : (b : At) (q : Result ℕ Stopped) (n : ℕ) → Goes s i a b q → q ≡ stop n → fate s i a ≡ (false, n)
  goes_stop b q n g f = subst (λ (z : Result ℕ Stopped). Goes s i a b z) f g

  -- and another after it
  pub goes_then : (b c : At) (q : Result ℕ Stopped) (j : ℕ) (r : Result ℕ Stopped) → Goes s i a b q → q ≡ Ok j → Goes s j b c r → Goes s i a c r
  goes_then b c q j r g f k =
      let w : Goes s i a b (Ok j) = subst (λ (z : Result ℕ Stopped). Goes s i a b z) f g in
      let l = w.0 in
      goes_after j b c r (omega arith) w.2 k

  -- one that ended at j
  pub goes_is : (b : At) (q : Result ℕ Stopped) (j : ℕ) → Goes s i a b q → q ≡ Ok j → Goes s i a b (Ok j)
  goes_is b q j g f = subst (λ (z : Result ℕ Stopped). Goes s i a b z) f g

  -- within the text
  pub goes_within : (b : At) (q : Result ℕ Stopped) (j : ℕ) → Goes s i a b q → q ≡ Ok j → (i < j) × (j ≤ length s)
  goes_within b q j g f = let w : Goes s i a b (Ok j) = subst (λ (z : Result ℕ Stopped). Goes s i a b z) f g in (w.0, w.1)
