-- A loop that tests every byte, by a class that may depend on its place. Assumes nothing.
use mathlib.Core.Path.{◌≡◌, refl, sym, ◌∙◌, ap, subst}
use mathlib.Core.Bool.{Bool, true, false, true≢false}
use mathlib.Core.List.{List, [], ◌∷◌}
use Prim.Native.Nat.{ℕ, zero, suc, ◌+◌, ◌≤◌, ◌<◌, zero-le, suc-le-suc}
use native.Mathlib.Omega.{arith}
use Rattle.std.specs.Prelude.{EachIndex}
use native.Mathlib.Numerals.{add-one}
use lib.ListN.{length, drop, get_or, drop_of_length-le}
use lib.Seq.{drop-cons}
use Rattle.text.specs.Lists.{All}
use Rattle.value.specs.Judged.{Exactly}

module _ (p : ℕ → ℕ → Bool) where
  -- every one passes the test of its place, the first at place i
  abbrev pub From : ℕ → List ℕ → Type 0
  From i [] = Unit {0}
  From i (x ∷ xs) = (p i x ≡ true) × From (suc i) xs

  -- what is still to come passes exactly when all does
  pub record Run (t : List ℕ) (i : ℕ) : Type 0 where
    pub within : i ≤ length t
    pub to : From i (drop i t) → From 0 t
    pub from : From 0 t → From i (drop i t)

  pub run_none : (t : List ℕ) → Run t 0
  run_none t = record { within = zero-le; to = λ h. h; from = λ h. h }

  module _ (t : List ℕ) (i : ℕ) (w : Run t i) where
    pub run_more : i < length t → p i (get_or t i 0) ≡ true → Run t (i + 1)
    run_more h e =
        rw (add-one i)
        (record {
          within = h;
          to = λ r. w.to (subst (From i) (sym (drop-cons t i 0 h)) (e, r));
          from = λ r. (subst (From i) (drop-cons t i 0 h) (w.from r)).1;
        })

    pub run_stop : i < length t → p i (get_or t i 0) ≡ false → From 0 t → ⊥
    run_stop h e r = true≢false (sym (subst (From i) (drop-cons t i 0 h) (w.from r)).0 ∙ e)

    pub run_end : length t ≤ i → From 0 t
    run_end h = w.to (subst (From i) (sym (drop_of_length-le t h)) tt)

  -- the same by the places
  from_each : (i : ℕ) (t : List ℕ) → EachIndex t (λ j. p (i + j) (get_or t j 0) ≡ true) → From i t
  from_each i [] f = tt
  from_each i (x ∷ t) f = (
    ap (λ (k : ℕ). p k x) (let e : i ≡ i + 0 = omega arith in e) ∙ f 0 (omega arith),
    from_each (suc i) t (λ j h. ap (λ (k : ℕ). p k (get_or t j 0)) (let e : suc i + j ≡ i + suc j = omega arith in e) ∙ f (suc j) (suc-le-suc h)),
  )

  each_from : (i : ℕ) (t : List ℕ) → From i t → EachIndex t (λ j. p (i + j) (get_or t j 0) ≡ true)
  each_from i [] f j h = absurd (omega arith)
  each_from i (x ∷ t) f zero h = ap (λ (k : ℕ). p k x) (let e : i + 0 ≡ i = omega arith in e) ∙ f.0
  each_from i (x ∷ t) f (suc j) h = ap (λ (k : ℕ). p k (get_or t j 0)) (let e : i + suc j ≡ suc i + j = omega arith in e) ∙ each_from (suc i) t f.1 j (omega arith)

  pub places_from : (t : List ℕ) → EachIndex t (λ j. p j (get_or t j 0) ≡ true) → From 0 t
  places_from t f = from_each 0 t (λ j h. ap (λ (k : ℕ). p k (get_or t j 0)) (let e : 0 + j ≡ j = omega arith in e) ∙ f j h)

  pub from_places : (t : List ℕ) → From 0 t → EachIndex t (λ j. p j (get_or t j 0) ≡ true)
  from_places t f j h = ap (λ (k : ℕ). p k (get_or t j 0)) (let e : j ≡ 0 + j = omega arith in e) ∙ each_from 0 t f j h

-- one class for every place
pub to_all : (p : ℕ → Bool) (i : ℕ) (t : List ℕ) → From (λ _ x. p x) i t → All p t
to_all p i [] h = tt
to_all p i (x ∷ t) h = (h.0, to_all p (suc i) t h.1)

pub from_all : (p : ℕ → Bool) (i : ℕ) (t : List ℕ) → All p t → From (λ _ x. p x) i t
from_all p i [] h = tt
from_all p i (x ∷ t) h = (h.0, from_all p (suc i) t h.1)

-- answers of a test
pub exactly_no : {P : Type 0} → (P → ⊥) → Exactly false P
exactly_no f = (λ e. absurd (true≢false (sym e)), λ p. absurd (f p))

pub exactly_yes : {P : Type 0} → P → Exactly true P
exactly_yes p = (λ e. p, λ p. refl)
