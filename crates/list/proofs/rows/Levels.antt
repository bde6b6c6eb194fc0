-- The level of a row is one more than its parent's, and at most 16. Assumes nothing.
use mathlib.Core.Path.{◌≡◌, refl, ap, subst}
use mathlib.Core.Bool.{Bool, true, false, cond}
use Prim.Native.Nat.{ℕ, zero, suc, ◌≤◌, zero-le, suc-le-suc}
use native.Mathlib.Omega.{arith}
use lib.Dec.{eqb}
use borrow.Author.Tests.{eq-eqb, ne_eqb}
use Rattle.list.specs.Listing.{Listing, row_at, Child, up}
use Rattle.list.specs.WellFormed.{WellFormed}
use Rattle.list.specs.tables.Sound.{level_in, level}

module _ (l : Listing) where
  level_most : (k r : ℕ) → level_in l k r ≤ k
  unfolding level_in
  level_most zero r = zero-le
  level_most (suc k) r = go (eqb r 0) (level_most k (row_at l r).parent)
    where
      go : (b : Bool) → level_in l k (row_at l r).parent ≤ k → cond b 0 (suc (level_in l k (row_at l r).parent)) ≤ suc k
      go true h = zero-le
      go false h = suc-le-suc h

  -- counting on past the root changes nothing
  level_on : (k r : ℕ) → up l k r ≡ 0 → level_in l k r ≡ level_in l (suc k) r
  unfolding level_in
  level_on zero r e = rw (eq-eqb r 0 e) refl
  level_on (suc k) r e = ap (λ x. cond (eqb r 0) 0 (suc x)) (level_on k (row_at l r).parent e)

  pub level_root : level l 0 ≡ 0
  unfolding level_in
  level_root = refl

  module _ (w : WellFormed l) (p r : ℕ) (c : Child l p r) where
    pub level_child : level l r ≡ suc (level l p)
    unfolding level_in
    level_child =
        let e : up l 15 p ≡ 0 = subst (λ q. up l 15 q ≡ 0) c.parent (w.levels r c.last) in
        rw (ne_eqb r 0 (λ z. omega (arith, c.first)), c.parent) (ap suc (level_on 15 p e))

    pub level_bound : (1 ≤ level l r) × (level l r ≤ 16)
    level_bound = (omega (arith, level_child), level_most 16 r)
