-- Laws of the words about rows: the first number that passes a test, how often a row occurs, row order. Assumes nothing.
use mathlib.Core.Path.{◌≡◌, refl, sym, ◌∙◌, subst}
use mathlib.Core.Bool.{Bool, true, false}
use mathlib.Core.List.{List, [], ◌∷◌}
use Prim.Native.Nat.{ℕ, zero, suc, ◌+◌, ◌≤◌, ◌<◌}
use native.Mathlib.Omega.{arith}
use native.Mathlib.Decide.{ℕ_discrete}
use borrow.Author.Tests.{eq-eqb, ne_eqb, lt-ltb}
use Rattle.text.specs.Lists.{Each, same}
pub use Rattle.text.proofs.Parts.{same_eq, same_of}
use Rattle.list.specs.Words.{times, has, first_from}
use Rattle.list.proofs.sound.Tests.{by_cases}

-- ---- texts compared

pub same_refl : (a : List ℕ) → same a a ≡ true
same_refl a = same_of a a refl

-- ---- the first number that passes

-- r is the first of the k numbers from i on that passes
pub record First (f : ℕ → Bool) (i k r : ℕ) : Type 0 where
  pub passes : f r ≡ true
  pub from : i ≤ r
  pub to : r < i + k
  pub lowest : (q : ℕ) → i ≤ q → q < r → f q ≡ false

module _ (f : ℕ → Bool) where
  first_from_here : (i k : ℕ) → f i ≡ true → first_from f i (suc k) ≡ i
  unfolding first_from
  first_from_here i k e = rw e

  first_from_on : (i k : ℕ) → f i ≡ false → first_from f i (suc k) ≡ first_from f (suc i) k
  unfolding first_from
  first_from_on i k e = rw e

  -- none passes where the answer is 0
  pub first_from_none : (i k : ℕ) → 0 < i → first_from f i k ≡ 0 → (r : ℕ) → i ≤ r → r < i + k → f r ≡ false
  first_from_none i zero h e r a b = absurd (omega arith)
  first_from_none i (suc k) h e r a b = by_cases (f i)
      (λ y. absurd (omega (arith, first_from_here i k y)))
      (λ n. elim (ℕ_discrete i r) [
        | yes q ↦ subst (λ m. f m ≡ false) q n
        | no ne ↦ first_from_none (suc i) k (omega arith) (sym (first_from_on i k n) ∙ e) r (omega arith) (omega arith)
      ])

  pub first_from_some : (i k r : ℕ) → first_from f i k ≡ r → 0 < r → First f i k r
  unfolding first_from
  first_from_some i zero r e h = absurd (omega arith)
  first_from_some i (suc k) r e h = by_cases (f i)
      (λ y. let z : i ≡ r = sym (first_from_here i k y) ∙ e in
      record { passes = subst (λ m. f m ≡ true) z y; from = omega arith; to = omega arith; lowest = λ q a b. absurd (omega arith) })
      (λ n. let w = first_from_some (suc i) k r (sym (first_from_on i k n) ∙ e) h in
      record {
        passes = w.passes;
        from = omega (arith, w.from);
        to = omega (arith, w.to);
        lowest = λ q a b. elim (ℕ_discrete i q) [ yes z ↦ subst (λ m. f m ≡ false) z n | no ne ↦ w.lowest q (omega arith) b ];
      })

  pub first_from_is : (i k r : ℕ) → First f i k r → first_from f i k ≡ r
  first_from_is i zero r w = absurd (omega (arith, w.from, w.to))
  first_from_is i (suc k) r w = elim (ℕ_discrete i r) [
    | yes z ↦ first_from_here i k (subst (λ m. f m ≡ true) (sym z) w.passes) ∙ z
    | no ne ↦ first_from_on i k (w.lowest i (omega arith) (omega (arith, w.from)))
        ∙ first_from_is (suc i) k r (record { passes = w.passes; from = omega (arith, w.from); to = omega (arith, w.to); lowest = λ q a b. w.lowest q (omega arith) b })
  ]

  pub first_from_zero : (i k : ℕ) → ((r : ℕ) → i ≤ r → r < i + k → f r ≡ false) → first_from f i k ≡ 0
  unfolding first_from
  first_from_zero i zero h = refl
  first_from_zero i (suc k) h = first_from_on i k (h i (omega arith) (omega arith)) ∙ first_from_zero (suc i) k (λ r a b. h r (omega arith) (omega arith))

-- tests that agree find the same
pub first_from_ext : (f g : ℕ → Bool) (i k : ℕ) → ((q : ℕ) → i ≤ q → q < i + k → f q ≡ g q) → first_from f i k ≡ first_from g i k
unfolding first_from
first_from_ext f g i zero h = refl
first_from_ext f g i (suc k) h = rw (h i (omega arith) (omega arith), first_from_ext f g (suc i) k (λ q a b. h q (omega arith) (omega arith)))

-- ---- how often

pub times_hit : (r q : ℕ) (rs : List ℕ) → q ≡ r → times r (q ∷ rs) ≡ suc (times r rs)
times_hit r q rs e = rw (eq-eqb q r e)

pub times_miss : (r q : ℕ) (rs : List ℕ) → (q ≡ r → ⊥) → times r (q ∷ rs) ≡ times r rs
times_miss r q rs e = rw (ne_eqb q r e)

pub times_more : (r q : ℕ) (rs : List ℕ) → times r rs ≤ times r (q ∷ rs)
times_more r q rs = elim (ℕ_discrete q r) [ yes e ↦ rw (eq-eqb q r e) (omega arith) | no ne ↦ rw (ne_eqb q r ne) (omega arith) ]

pub has_of : (r : ℕ) (rs : List ℕ) → 0 < times r rs → has r rs ≡ true
has_of r rs h = lt-ltb 0 (times r rs) h

-- what holds of each holds of one that occurs, and the other way round
pub each_at : (P : ℕ → Type 0) (rs : List ℕ) (r : ℕ) → Each P rs → 0 < times r rs → P r
each_at P [] r a h = absurd (omega arith)
each_at P (q ∷ rs) r a h = elim (ℕ_discrete q r) [
  | yes e ↦ subst P e a.0
  | no ne ↦ each_at P rs r a.1 (subst (λ m. 0 < m) (times_miss r q rs ne) h)
]

pub each_of : (P : ℕ → Type 0) (rs : List ℕ) → ((r : ℕ) → 0 < times r rs → P r) → Each P rs
each_of P [] f = tt
each_of P (q ∷ rs) f = (f q (rw (eq-eqb q q refl) (omega arith)), each_of P rs (λ r h. f r (omega (arith, times_more r q rs))))

-- ---- row order
