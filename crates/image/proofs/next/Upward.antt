-- One turn of the loops that go up from a row. Assumes nothing.
use mathlib.Core.Path.{◌≡◌, refl}
use mathlib.Core.Bool.{true, false}
use mathlib.Core.List.{List}
use Prim.Native.Nat.{ℕ, zero, suc, ◌-◌, ◌≤◌, ◌<◌}
use native.Mathlib.Omega.{arith}
use borrow.Author.Tests.{eq-eqb, ne_eqb, le-leb, lt-leb}
use Rattle.list.specs.tables.Table.{cell}
use Rattle.image.specs.mirror.Step.{owed, beside, climbs, rests}

module _ (t : List ℕ) (x : ℕ) where
  pub climbs_none : (k q : ℕ) → k ≤ 0 → climbs t k q x ≡ false
  unfolding climbs
  climbs_none zero q h = refl
  climbs_none (suc k) q h = absurd (omega arith)

  pub climbs_top : (k q : ℕ) → 0 < k → q ≤ 1 → climbs t k q x ≡ false
  unfolding climbs
  climbs_top zero q h g = absurd (omega arith)
  climbs_top (suc k) q h g = rw (le-leb q 1 g)

  pub climbs_side : (k q : ℕ) → 0 < k → 1 < q → cell t q 0 ≡ cell t x 0 → climbs t k q x ≡ beside t (cell t x 0) q x
  unfolding climbs
  climbs_side zero q h g e = absurd (omega arith)
  climbs_side (suc k) q h g e = rw (lt-leb q 1 g, eq-eqb (cell t q 0) (cell t x 0) e)

  pub climbs_owed : (k q : ℕ) → 0 < k → 1 < q → (cell t q 0 ≡ cell t x 0 → ⊥) → (owed t q ≡ 0 → ⊥) → climbs t k q x ≡ false
  unfolding climbs
  climbs_owed zero q h g e f = absurd (omega arith)
  climbs_owed (suc k) q h g e f = rw (lt-leb q 1 g, ne_eqb (cell t q 0) (cell t x 0) e, ne_eqb (owed t q) 0 f)

  pub climbs_up : (k q : ℕ) → 0 < k → 1 < q → (cell t q 0 ≡ cell t x 0 → ⊥) → owed t q ≡ 0 → climbs t k q x ≡ climbs t (k - 1) (cell t q 0) x
  unfolding climbs
  climbs_up zero q h g e f = absurd (omega arith)
  climbs_up (suc k) q h g e f =
      let z : suc k - 1 ≡ k = omega arith in
      rw (lt-leb q 1 g, ne_eqb (cell t q 0) (cell t x 0) e, eq-eqb (owed t q) 0 f, z)

module _ (t : List ℕ) where
  pub rests_none : (k q : ℕ) → k ≤ 0 → rests t k q ≡ false
  unfolding rests
  rests_none zero q h = refl
  rests_none (suc k) q h = absurd (omega arith)

  pub rests_top : (k q : ℕ) → 0 < k → q ≤ 1 → rests t k q ≡ true
  unfolding rests
  rests_top zero q h g = absurd (omega arith)
  rests_top (suc k) q h g = rw (le-leb q 1 g)

  pub rests_owed : (k q : ℕ) → 0 < k → 1 < q → (owed t q ≡ 0 → ⊥) → rests t k q ≡ false
  unfolding rests
  rests_owed zero q h g f = absurd (omega arith)
  rests_owed (suc k) q h g f = rw (lt-leb q 1 g, ne_eqb (owed t q) 0 f)

  pub rests_up : (k q : ℕ) → 0 < k → 1 < q → owed t q ≡ 0 → rests t k q ≡ rests t (k - 1) (cell t q 0)
  unfolding rests
  rests_up zero q h g f = absurd (omega arith)
  rests_up (suc k) q h g f = let z : suc k - 1 ≡ k = omega arith in rw (lt-leb q 1 g, eq-eqb (owed t q) 0 f, z)
