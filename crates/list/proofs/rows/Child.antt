-- A child by its name. Assumes nothing.
use mathlib.Core.Path.{◌≡◌, refl, sym, ◌∙◌}
use mathlib.Core.Bool.{Bool, ◌&&◌}
use mathlib.Core.List.{List}
use Prim.Native.Nat.{ℕ, zero, suc, ◌<◌}
use native.Mathlib.Omega.{arith}
use lib.Dec.{eqb}
use borrow.Author.Tests.{eqb-true, eq-eqb}
use Rattle.text.specs.Lists.{same}
use Rattle.text.proofs.Classes.{and_is}
use Rattle.list.specs.Listing.{Listing, row_at, size, Child, child}
use Rattle.list.specs.WellFormed.{WellFormed}
use Rattle.list.proofs.sound.Tests.{clash}
use Rattle.list.proofs.rows.Words.{same_eq, same_of, first_from_none, first_from_some}

module _ (l : Listing) (p : ℕ) (n : List ℕ) where
  test : ℕ → Bool
  test r = eqb (row_at l r).parent p && same (row_at l r).name n

  -- r is a child of p called n
  pub record Found (r : ℕ) : Type 0 where
    pub its : Child l p r
    pub name : (row_at l r).name ≡ n

  pub child_found : (r : ℕ) → child l p n ≡ r → 0 < r → Found r
  unfolding child test
  child_found r e h =
      let w = first_from_some test 1 (size l) r e h in
      let a = and_is (eqb (row_at l r).parent p) (same (row_at l r).name n) w.passes in
      record {
        its = record { first = h; last = omega (arith, w.to); parent = eqb-true (row_at l r).parent p a.0 };
        name = same_eq (row_at l r).name n a.1;
      }

  pub child_none : child l p n ≡ 0 → (r : ℕ) → Found r → ⊥
  unfolding child test
  child_none e r f =
      clash (test r)
      (rw (eq-eqb (row_at l r).parent p f.its.parent) (same_of (row_at l r).name n f.name))
      (first_from_none test 1 (size l) (omega arith) e r f.its.first (omega (arith, f.its.last)))

  -- siblings' names differ: any row found is the one that the definition finds
  pub child_is : WellFormed l → (r : ℕ) → Found r → child l p n ≡ r
  child_is w r f = go (child l p n) refl
    where
      go : (q : ℕ) → child l p n ≡ q → child l p n ≡ r
      go zero e = absurd (child_none e r f)
      go (suc q) e = let g = child_found (suc q) e (omega arith) in e ∙ w.apart p (suc q) r g.its f.its (g.name ∙ sym f.name)

  pub child_zero : ((r : ℕ) → Found r → ⊥) → child l p n ≡ 0
  child_zero h = go (child l p n) refl
    where
      go : (q : ℕ) → child l p n ≡ q → child l p n ≡ 0
      go zero e = e
      go (suc q) e = absurd (h (suc q) (child_found (suc q) e (omega arith)))
