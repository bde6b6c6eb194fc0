-- A name as the automaton reads it: by its first byte, by further ones, by runs. Assumes nothing.
use mathlib.Core.Path.{◌≡◌, sym, ◌∙◌, ap, ap₂}
use mathlib.Core.Bool.{Bool, true}
use mathlib.Core.List.{List, [], ◌∷◌, ◌++◌}
use Prim.Native.Nat.{ℕ, ◌+◌, ◌≤◌, ◌<◌}
use native.Mathlib.Omega.{arith}
use lib.ListN.{length, get_or, drop, take}
use lib.Seq.{slice, slice_empty, take-add, drop-append-le, length-take-le, drop-cons}
use Rattle.text.specs.Lists.{span}
use Rattle.xml.specs.mirror.Auto.{At, at, next}
use Rattle.xml_scan.specs.mirror.Goes.{fate}
use Rattle.xml_scan.proofs.Fate.{fate_byte, fate_grow}

module _ (s : List ℕ) (b c : ℕ) (h : b ≤ c) where
  slice_more : (n : ℕ) → c ≤ length s → slice b c s ++ take n (drop c s) ≡ slice b (c + n) s
  slice_more n k =
      sym (ap (drop b) (take-add c n s) ∙ drop-append-le b (take c s) (take n (drop c s)) (omega (arith, length-take-le c s k)))

  slice_byte : c < length s → slice b c s ++ (get_or s c 0 ∷ []) ≡ slice b (c + 1) s
  slice_byte k = ap (λ (l : List ℕ). slice b c s ++ l) (sym (ap (take 1) (drop-cons s c 0 k))) ∙ slice_more 1 (omega arith)

-- g n is the state within a name that begins at b and has the bytes n so far
module _ (g : List ℕ → At) (s : List ℕ) (b : ℕ) where
  pub grown_byte : (a : At) (c : ℕ) → b ≤ c → c < length s → next a (get_or s c 0) ≡ at (g (slice b c s ++ (get_or s c 0 ∷ [])))
      → fate s c a ≡ fate s (c + 1) (g (slice b (c + 1) s))
  grown_byte a c h k e =
      fate_byte s c a (g (slice b c s ++ (get_or s c 0 ∷ []))) k e ∙ ap (λ (l : List ℕ). fate s (c + 1) (g l)) (slice_byte s b c h k)

  pub grown_first : (a : At) → b < length s → next a (get_or s b 0) ≡ at (g (get_or s b 0 ∷ [])) → fate s b a ≡ fate s (b + 1) (g (slice b (b + 1) s))
  grown_first a h e = grown_byte a b (omega arith) h (e ∙ ap (λ (l : List ℕ). at (g (l ++ (get_or s b 0 ∷ [])))) (sym (slice_empty b s)))

  pub grown_run : (p : ℕ → Bool) → ((m : List ℕ) (x : ℕ) → p x ≡ true → next (g m) x ≡ at (g (m ++ (x ∷ [])))) → (c e : ℕ) → b ≤ c → c ≤ length s
      → e ≡ c + span p (drop c s) → fate s c (g (slice b c s)) ≡ fate s e (g (slice b e s))
  grown_run p f c e h k is =
      fate_grow p g f s (slice b c s) c
      ∙ ap₂ (λ (j : ℕ) (l : List ℕ). fate s j (g l)) (sym is) (slice_more s b c h (span p (drop c s)) k ∙ ap (λ (j : ℕ). slice b j s) (sym is))
