-- A list of bytes that is put together from parts, and one part more. Assumes nothing.
use mathlib.Core.Path.{◌≡◌, sym, ◌∙◌, ap}
use mathlib.Core.List.{List, [], ◌∷◌, ◌++◌, append_assoc, append-nil}
use Prim.Native.Nat.{ℕ, ◌+◌, ◌≤◌, ◌<◌}
use native.Mathlib.Omega.{arith}
use lib.ListN.{length, drop, length-append, length-drop}
use Rattle.text.specs.Lists.{Each}
use Rattle.text.specs.Words.{starts}
use Rattle.text.proofs.Parts.{starts_is}
use mathlib.Core.Bool.{true}

-- f are the bytes of a part, g those of all
module _ {A : Type 0} (f : A → List ℕ) (g : List A → List ℕ) (none : g [] ≡ []) (one : (x : A) (xs : List A) → g (x ∷ xs) ≡ f x ++ g xs) where
  pub joined_more : (xs : List A) (x : A) (u : List ℕ) → g (xs ++ (x ∷ [])) ++ u ≡ g xs ++ (f x ++ u)
  joined_more [] x u =
      ap (λ (z : List ℕ). z ++ u) (one x [] ∙ ap (λ (z : List ℕ). f x ++ z) none ∙ append-nil (f x)) ∙ ap (λ (z : List ℕ). z ++ (f x ++ u)) (sym none)
  joined_more (y ∷ xs) x u =
      ap (λ (z : List ℕ). z ++ u) (one y (xs ++ (x ∷ []))) ∙ append_assoc (f y) (g (xs ++ (x ∷ []))) u
      ∙ ap (λ (z : List ℕ). f y ++ z) (joined_more xs x u)
      ∙ sym (append_assoc (f y) (g xs) (f x ++ u)) ∙ ap (λ (z : List ℕ). z ++ (f x ++ u)) (sym (one y xs))

pub each_more : {A : Type 0} (P : A → Type 0) (xs : List A) (x : A) → Each P xs → P x → Each P (xs ++ (x ∷ []))
each_more P [] x h p = (p, tt)
each_more P (y ∷ xs) x h p = (h.0, each_more P xs x h.1 p)

-- what stands at a place lies in the text
pub stands_on : (s : List ℕ) (at r : ℕ) (w : List ℕ) → drop at s ≡ w ++ drop r s → 0 < length w → (at < r) × (at < length s)
stands_on s at r w e h =
    let l = ap length e in
    (omega (arith, l, length-append w (drop r s), length-drop at s, length-drop r s), omega (arith, l, length-append w (drop r s), length-drop at s))

pub starts_room : (s w : List ℕ) (at : ℕ) → starts w (drop at s) ≡ true → 0 < length w → at + length w ≤ length s
starts_room s w at z h = omega (arith, ap length (starts_is w (drop at s) z), length-append w (drop (length w) (drop at s)), length-drop at s)
