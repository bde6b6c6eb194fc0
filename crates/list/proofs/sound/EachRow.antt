-- Every row of a well-formed list keeps to the rules. Assumes nothing.
use mathlib.Core.Path.{subst}
use mathlib.Core.Logic.{inl, inr}
use Prim.Native.Nat.{ℕ}
use native.Mathlib.Omega.{arith}
use native.Mathlib.Decide.{ℕ_discrete}
use Rattle.list.specs.Listing.{Listing, Child}
use Rattle.list.specs.WellFormed.{WellFormed}
use Rattle.list.specs.EachRow.{EachRow}
use Rattle.list.proofs.rows.Levels.{level_child}

module _ (l : Listing) (w : WellFormed l) (p r : ℕ) (c : Child l p r) where
  pub each_row : EachRow l p r
  each_row = record {
    parent = elim (ℕ_discrete p 0) [
      | yes e ↦ inl (e, w.one_root r (subst (λ q. Child l q r) e c))
      | no n ↦ inr (omega arith, w.parents p r c (omega arith))
    ];
    before = w.before p r c;
    filled = w.filled p r c;
    byte = omega (arith, c.last, w.bytes);
    levels = w.levels r c.last;
    deeper = level_child l w p r c;
    name = w.names p r c;
    apart = λ q d e. w.apart p r q c d e;
    counted = w.counted p r c;
    uncounted = w.uncounted p r c;
    kind = w.kinds p r c;
  }
