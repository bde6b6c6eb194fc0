-- The length of a month by the number of the month, and the test of a real day. Assumes nothing.
use mathlib.Core.Path.{◌≡◌, sym}
use mathlib.Core.Bool.{Bool, true, false, true≢false, cond, ◌&&◌, ◌||◌}
use mathlib.Core.List.{[], ◌∷◌}
use mathlib.Core.Logic.{⊎_elim, inl, inr}
use Prim.Native.Nat.{ℕ, ◌≤◌, ◌<◌}
use native.Mathlib.Omega.{arith}
use native.Mathlib.Decide.{dec_lt}
use lib.Dec.{leb, eqb}
use types.Run.{OneOf}
use borrow.Author.Tests.{ne_eqb, le-leb}
use Rattle.text.specs.Bytes.{in_range}
use Rattle.text.proofs.Classes.{and_is, in_range_lem, in_range_is}
use Rattle.value.specs.types.Day.{Real, is_real, leap, month_days}
use Rattle.value.proofs.classes.Classes.{in_no}

pub month_none : (y m : ℕ) → (1 ≤ m → m ≤ 12 → ⊥) → 0 ≡ month_days y m
month_none y m f = rw (ne_eqb m 2 (λ e. f (omega arith) (omega arith)), ne_eqb m 4 (λ e. f (omega arith) (omega arith)), ne_eqb m 6 (λ e. f (omega arith) (omega arith)), ne_eqb m 9 (λ e. f (omega arith) (omega arith)), ne_eqb m 11 (λ e. f (omega arith) (omega arith)), in_no 1 12 m f)

pub month_thirty : (y m : ℕ) → OneOf (4 ∷ 6 ∷ 9 ∷ 11 ∷ []) m → 30 ≡ month_days y m
month_thirty y m w = ⊎_elim (λ e. rw e) (⊎_elim (λ e. rw e) (⊎_elim (λ e. rw e) (λ e. rw e))) w

pub month_else : (y m : ℕ) → 1 ≤ m → m ≤ 12 → (m ≡ 2 → ⊥) → (OneOf (4 ∷ 6 ∷ 9 ∷ 11 ∷ []) m → ⊥) → 31 ≡ month_days y m
month_else y m a b n o = rw (ne_eqb m 2 n, ne_eqb m 4 (λ e. o (inl e)), ne_eqb m 6 (λ e. o (inr (inl e))), ne_eqb m 9 (λ e. o (inr (inr (inl e)))), ne_eqb m 11 (λ e. o (inr (inr (inr e)))), le-leb 1 m a, le-leb m 12 b)

pub month_some : (y m : ℕ) → 1 ≤ m → m ≤ 12 → 1 ≤ month_days y m
month_some y m a b = go (eqb m 2) (leap y) (eqb m 4 || eqb m 6 || eqb m 9 || eqb m 11) (leb 1 m && leb m 12) (in_range_lem 1 12 m a b)
  where
    go : (f g h e : Bool) → e ≡ true → 1 ≤ cond f (cond g 29 28) (cond h 30 (cond e 31 0))
    go true true h e q = omega arith
    go true false h e q = omega arith
    go false g true e q = omega arith
    go false g false true q = omega arith
    go false g false false q = absurd (true≢false (sym q))

pub real_is : (y m d : ℕ) → is_real y m d ≡ true → Real y m d
unfolding is_real
real_is y m d e =
    let w = and_is (in_range 1 9999 y) (in_range 1 (month_days y m) d) e in
    let p = in_range_is 1 9999 y w.0 in
    let q = in_range_is 1 (month_days y m) d w.1 in
    record { year = p; month = months q.0 q.1 (dec_lt 0 m) (dec_lt m 13); day = q }
  where
    months : 1 ≤ d → d ≤ month_days y m → Dec (0 < m) → Dec (m < 13) → (1 ≤ m) × (m ≤ 12)
    months a b (yes h) (yes k) = (h, omega arith)
    months a b (no h) k = absurd (omega (arith, month_none y m (λ i j. h i)))
    months a b (yes h) (no k) = absurd (omega (arith, month_none y m (omega arith)))

pub real_of : (y m d : ℕ) → Real y m d → is_real y m d ≡ true
unfolding is_real
real_of y m d r = rw (in_range_lem 1 9999 y r.year.0 r.year.1) (in_range_lem 1 (month_days y m) d r.day.0 r.day.1)
