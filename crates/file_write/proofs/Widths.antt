-- How long a value is, by the number of its kind alone. Assumes nothing.
use mathlib.Core.Path.{◌≡◌, refl}
use mathlib.Core.List.{List}
use Prim.Native.Nat.{ℕ, ◌≤◌}
use native.Mathlib.Omega.{arith}
use Rattle.value.specs.mirror.Ends.{width}
use Rattle.value.proofs.stored.Numbered.{by_kind}

module _ (t : List ℕ) where
  -- ENUM and BOOL
  pub width_one : (c : ℕ) → 6 ≤ c → c ≤ 7 → 1 ≡ width c t
  unfolding width
  width_one =
      by_kind (λ c. 6 ≤ c → c ≤ 7 → 1 ≡ width c t) (λ h k. absurd (omega arith)) (λ h k. absurd (omega arith)) (λ h k. absurd (omega arith)) (λ h k. absurd (omega arith)) (λ h k. absurd (omega arith)) (λ h k. absurd (omega arith)) (λ h k. refl) (λ h k. refl)
      (λ h k. absurd (omega arith)) (λ h k. absurd (omega arith)) (λ h k. absurd (omega arith)) (λ h k. absurd (omega arith)) (λ c h k. absurd (omega arith))

  -- a number that no kind of leaf has
  pub width_none : (c : ℕ) → (2 ≤ c → c ≤ 11 → ⊥) → 0 ≡ width c t
  unfolding width
  width_none =
      by_kind (λ c. (2 ≤ c → c ≤ 11 → ⊥) → 0 ≡ width c t) (λ f. refl) (λ f. refl)
      (λ f. absurd (f (omega arith) (omega arith))) (λ f. absurd (f (omega arith) (omega arith))) (λ f. absurd (f (omega arith) (omega arith)))
      (λ f. absurd (f (omega arith) (omega arith))) (λ f. absurd (f (omega arith) (omega arith))) (λ f. absurd (f (omega arith) (omega arith)))
      (λ f. absurd (f (omega arith) (omega arith))) (λ f. absurd (f (omega arith) (omega arith))) (λ f. absurd (f (omega arith) (omega arith)))
      (λ f. absurd (f (omega arith) (omega arith))) (λ c f. refl)
