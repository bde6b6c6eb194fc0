-- How many levels are left below a row. Assumes nothing.
use mathlib.Core.Path.{◌≡◌}
use Prim.Native.Nat.{ℕ, suc, ◌-◌}
use native.Mathlib.Omega.{arith}
use Rattle.list.specs.Listing.{Listing, Child}
use Rattle.list.specs.WellFormed.{WellFormed}
use Rattle.list.specs.tables.Sound.{level}
use Rattle.list.proofs.rows.Levels.{level_root, level_child, level_bound}

abbrev pub room : Listing → ℕ → ℕ
room l p = 16 - level l p

module _ (l : Listing) (wf : WellFormed l) where
  pub deeper : (p r : ℕ) → Child l p r → room l p ≡ suc (room l r)
  deeper p r c =
      let e = level_child l wf p r c in
      let b = level_bound l wf p r c in
      omega (arith, e, b.1)

  pub root_room : room l 1 ≡ 15
  root_room =
      let c : Child l 0 1 = record { first = omega arith; last = wf.root.0; parent = wf.root.2 } in
      let e = level_child l wf 0 1 c in
      let z = level_root l in
      omega (arith, e, z)
