-- "At least one not a space": not all are spaces, and one passes the test. Assumes nothing.
use mathlib.Core.Path.{◌≡◌, sym, ◌∙◌, ap}
use mathlib.Core.Bool.{not, true≢false}
use mathlib.Core.Logic.{inl, inr}
use mathlib.Core.List.{List, [], ◌∷◌}
use Prim.Native.Nat.{ℕ, ◌≤◌}
use native.Mathlib.Omega.{arith}
use native.Mathlib.Decide.{ℕ_discrete}
use lib.Dec.{eqb}
use lib.ListN.{length}
use borrow.Author.Tests.{eq-eqb, ne_eqb, eqb-true}
use Rattle.text.specs.Lists.{All, Any}
use Rattle.value.specs.mirror.Tests.{not_space}

pub some_ink : (cs : List ℕ) → Any not_space cs → 1 ≤ length cs
some_ink [] a = absurd a
some_ink (c ∷ cs) a = omega arith

pub ink_not : (cs : List ℕ) → Any not_space cs → All (eqb 32) cs → ⊥
ink_not [] a h = a
ink_not (x ∷ cs) (inl e) h = true≢false (sym e ∙ ap not (eq-eqb x 32 (sym (eqb-true 32 x h.0))))
ink_not (x ∷ cs) (inr a) h = ink_not cs a h.1

pub not_ink : (cs : List ℕ) → (All (eqb 32) cs → ⊥) → Any not_space cs
not_ink [] f = absurd (f tt)
not_ink (x ∷ cs) f = go (ℕ_discrete x 32) (not_ink cs)
  where
    go : Dec (x ≡ 32) → ((All (eqb 32) cs → ⊥) → Any not_space cs) → Any not_space (x ∷ cs)
    go (yes e) more = inr (more (λ h. f (eq-eqb 32 x (sym e), h)))
    go (no n) more = inl (ap not (ne_eqb x 32 n))
