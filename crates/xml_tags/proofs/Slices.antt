-- Parts of a text by their places: what stands at a place is known by `drop o s ≡ ..`. Assumes nothing.
use mathlib.Core.Path.{◌≡◌, sym, ◌∙◌, ap}
use mathlib.Core.List.{List, ◌++◌}
use Prim.Native.Nat.{ℕ, ◌+◌, ◌≤◌}
use native.Mathlib.Omega.{arith}
use lib.ListN.{length, take, drop, take-append-drop}
use lib.Seq.{slice, take-append_seam, drop-append_seam, drop-append-le, drop-drop, length-take-le, length-slice}
use Rattle.text.proofs.Parts.{part_take}

-- the part up to b is x
pub slice_is : (a b : ℕ) (s x w : List ℕ) → drop a s ≡ x ++ w → b ≡ a + length x → slice a b s ≡ x
slice_is a b s x w e h = ap (λ (n : ℕ). slice a n s) h ∙ part_take a (length x) s ∙ ap (take (length x)) e ∙ take-append_seam x w

-- after x
pub drop_is : (a b : ℕ) (s x w : List ℕ) → drop a s ≡ x ++ w → b ≡ a + length x → drop b s ≡ w
drop_is a b s x w e h = ap (λ (n : ℕ). drop n s) h ∙ sym (drop-drop (length x) a s) ∙ ap (drop (length x)) e ∙ drop-append_seam x w

-- a part, and what stands after it
pub slice_drop : (a b : ℕ) (s : List ℕ) → a ≤ b → b ≤ length s → drop a s ≡ slice a b s ++ drop b s
slice_drop a b s h k =
    ap (drop a) (sym (take-append-drop b s)) ∙ drop-append-le a (take b s) (drop b s) (omega (arith, length-take-le b s k))

pub slice_end : (a b : ℕ) (s : List ℕ) → a ≤ b → b ≤ length s → b ≡ a + length (slice a b s)
slice_end a b s h k = omega (arith, length-slice a b s k)
