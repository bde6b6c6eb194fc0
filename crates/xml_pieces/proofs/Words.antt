-- Given bytes, one after the other. Assumes nothing.
use mathlib.Core.Path.{◌≡◌, refl, sym, ◌∙◌, ap, ap₂, subst}
use mathlib.Core.Bool.{Bool, true, false, cond}
use mathlib.Core.Logic.{◌≢◌}
use mathlib.Core.List.{List, [], ◌∷◌}
use Prim.Native.Nat.{ℕ, suc, ◌+◌, ◌-◌, ◌≤◌, ◌<◌, zero-le}
use native.Mathlib.Nat.{add-zero}
use native.Mathlib.Omega.{arith}
use lib.Dec.{eqb}
use lib.ListN.{length, get_or, drop, take, drop_of_length-le}
use lib.Seq.{drop-cons, length-take-le}
use borrow.Author.Tests.{eq-eqb, ne_eqb, eqb-true, eqb-false}
use Rattle.xml_pieces.specs.Over.{Over}
use Rattle.xml_pieces.specs.Kinds.{IsWord}
use Rattle.xml_pieces.proofs.Overs.{Lone, over_one, over_end, over_dead, over_byte}
use Rattle.std.specs.Prelude.{Result, Ok}
use Rattle.xml_pieces.specs.declared.Stopped.{Stopped}
use Rattle.xml_pieces.specs.Over.{stop}

-- over the bytes w where the bytes t stand, at place i
unfoldable pub over_word : List ℕ → List ℕ → ℕ → Result ℕ Stopped
over_word [] t i = Ok i
over_word (y ∷ q) [] i = stop i
over_word (y ∷ q) (x ∷ t) i = cond (eqb x y) (over_word q t (i + 1)) (stop i)

no_bytes : (y : ℕ) (q : List ℕ) → IsWord (y ∷ q) [] → ⊥
no_bytes y q e = omega (arith, ap length e)

word_over : (w t : List ℕ) (i : ℕ) → Over (IsWord w) t i (over_word w t i)
unfolding over_word
word_over [] t i = (0, sym (add-zero i), record { within = zero-le; is = refl })
word_over (y ∷ q) [] i = over_end (IsWord (y ∷ q)) (y ∷ q, refl) (no_bytes y q) i
word_over (y ∷ q) (x ∷ t) i = go (eqb x y) refl (word_over q t (i + 1))
  where
    go : (b : Bool) → eqb x y ≡ b → Over (IsWord q) t (i + 1) (over_word q t (i + 1))
        → Over (IsWord (y ∷ q)) (x ∷ t) i (cond b (over_word q t (i + 1)) (stop i))
    go true e h =
        over_byte (IsWord (y ∷ q)) (IsWord q) x (λ l f. ap₂ ◌∷◌ (eqb-true x y e) f) (λ l f. ap (drop 1) f) (no_bytes y q) t i (over_word q t (i + 1)) h
    go false e h = over_dead (IsWord (y ∷ q)) (y ∷ q, refl) (no_bytes y q) x t i (λ l f. eqb-false x y e (ap (λ (m : List ℕ). get_or m 0 0) f))

word_lone : (w : List ℕ) → Lone (IsWord w)
word_lone w t m n p q =
    let e : length (take m t) ≡ length w = ap length p.is in
    let f : length (take n t) ≡ length w = ap length q.is in
    omega (arith, length-take-le m t p.within, length-take-le n t q.within)

-- only one answer fits
pub word_one : (w t : List ℕ) (i : ℕ) (a b : Result ℕ Stopped) → Over (IsWord w) t i a → Over (IsWord w) t i b → a ≡ b
word_one w t i a b p q = over_one (IsWord w) (word_lone w) t i a b p q

-- and it is this
pub word_is : (w t : List ℕ) (i : ℕ) (r : Result ℕ Stopped) → Over (IsWord w) t i r → r ≡ over_word w t i
word_is w t i r h = word_one w t i r (over_word w t i) h (word_over w t i)

-- ---- the loop: the first k bytes of w stand at i

pub record Spelling (s : List ℕ) (i : ℕ) (w : List ℕ) (k : ℕ) : Type 0 where
  pub upto : k ≤ length w
  pub within : k ≤ length s - i
  pub so : over_word w (drop i s) i ≡ over_word (drop k w) (drop (i + k) s) (i + k)

module _ (s : List ℕ) (i : ℕ) (w : List ℕ) where
  answer : (r : Result ℕ Stopped) → over_word w (drop i s) i ≡ r → Over (IsWord w) (drop i s) i r
  answer r e = subst (λ (z : Result ℕ Stopped). Over (IsWord w) (drop i s) i z) e (word_over w (drop i s) i)

  pub spelling_none : Spelling s i w 0
  spelling_none = record { upto = zero-le; within = zero-le; so = rw (add-zero i) refl }

  module _ (k : ℕ) (o : Spelling s i w k) where
    pub spelling_all : length w ≤ k → Over (IsWord w) (drop i s) i (Ok (i + length w))
    unfolding over_word
    spelling_all h =
        let e : i + k ≡ i + length w = omega (arith, o.upto) in
        answer (Ok (i + length w)) (o.so ∙ ap (λ (q : List ℕ). over_word q (drop (i + k) s) (i + k)) (drop_of_length-le w h) ∙ ap Ok e)

    module _ (h : k < length w) where
      left : over_word w (drop i s) i ≡ over_word (get_or w k 0 ∷ drop (suc k) w) (drop (i + k) s) (i + k)
      left = o.so ∙ ap (λ (q : List ℕ). over_word q (drop (i + k) s) (i + k)) (drop-cons w k 0 h)

      pub spelling_cut : length s ≤ i + k → Over (IsWord w) (drop i s) i (stop (i + k))
      unfolding over_word
      spelling_cut e =
          answer (stop (i + k)) (left ∙ ap (λ (t : List ℕ). over_word (get_or w k 0 ∷ drop (suc k) w) t (i + k)) (drop_of_length-le s e))

      module _ (j : i + k < length s) where
        here : over_word w (drop i s) i
            ≡ cond (eqb (get_or s (i + k) 0) (get_or w k 0)) (over_word (drop (suc k) w) (drop (suc (i + k)) s) (i + k + 1)) (stop (i + k))
        unfolding over_word
        here = left ∙ ap (λ (t : List ℕ). over_word (get_or w k 0 ∷ drop (suc k) w) t (i + k)) (drop-cons s (i + k) 0 j)

        pub spelling_other : get_or s (i + k) 0 ≢ get_or w k 0 → Over (IsWord w) (drop i s) i (stop (i + k))
        spelling_other e = answer (stop (i + k)) (here ∙ rw (ne_eqb (get_or s (i + k) 0) (get_or w k 0) e) refl)

        pub spelling_more : get_or s (i + k) 0 ≡ get_or w k 0 → Spelling s i w (k + 1)
        spelling_more e =
            record {
              upto = omega arith;
              within = omega arith;
              so = here ∙ (rw (eq-eqb (get_or s (i + k) 0) (get_or w k 0) e) refl) ∙ places;
            }
          where
            places : over_word (drop (suc k) w) (drop (suc (i + k)) s) (i + k + 1) ≡ over_word (drop (k + 1) w) (drop (i + (k + 1)) s) (i + (k + 1))
            places =
                let a : suc k ≡ k + 1 = omega arith in
                let b : suc (i + k) ≡ i + (k + 1) = omega arith in
                let c : i + k + 1 ≡ i + (k + 1) = omega arith in
                ap (λ (n : ℕ). over_word (drop n w) (drop (suc (i + k)) s) (i + k + 1)) a
                ∙ ap (λ (n : ℕ). over_word (drop (k + 1) w) (drop n s) (i + k + 1)) b
                ∙ ap (λ (n : ℕ). over_word (drop (k + 1) w) (drop (i + (k + 1)) s) n) c
