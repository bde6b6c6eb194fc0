-- The stack of levels. Assumes nothing.
use mathlib.Core.Path.{◌≡◌, refl, ◌∙◌, ap, ap₂}
use mathlib.Core.List.{List, ◌∷◌}
use Prim.Native.Nat.{ℕ, zero, suc, ◌+◌, ◌-◌, ◌≤◌, ◌<◌}
use native.Mathlib.Numerals.{add-one, sub-one}
use native.Mathlib.Omega.{arith}
use lib.ListN.{length, length-set}
use lib.Seq.{get_or-set_same, get_or-set_other}
use Rattle.file_walk.specs.declared.level.Level.{Level}
use Rattle.file_walk.specs.mirror.Tables.{no_level, level_at, pushed, levels}

pub levels_length : (a : List Level) (n : ℕ) → length (levels a n) ≡ n
unfolding levels
levels_length a zero = refl
levels_length a (suc n) = ap suc (levels_length a n)

pub pushed_length : (a : List Level) (n : ℕ) (lv : Level) → length (pushed a n lv) ≡ length a
pushed_length a n lv = length-set a n lv

levels_under : (a : List Level) (n : ℕ) (lv : Level) (m : ℕ) → m ≤ n → levels (pushed a n lv) m ≡ levels a m
unfolding levels
levels_under a n lv zero h = refl
levels_under a n lv (suc m) h = ap₂ (λ (x : Level) (l : List Level). x ∷ l) (get_or-set_other a n m lv no_level (omega arith)) (levels_under a n lv m (omega arith))

levels_suc : (a : List Level) (n : ℕ) → levels a (suc n) ≡ level_at a n ∷ levels a n
unfolding levels
levels_suc a n = refl

-- what was pushed is on top
pub levels_push : (a : List Level) (n : ℕ) (lv : Level) → n < length a → levels (pushed a n lv) (n + 1) ≡ lv ∷ levels a n
levels_push a n lv h =
    rw (add-one n) (levels_suc (pushed a n lv) n ∙ ap₂ (λ (x : Level) (l : List Level). x ∷ l) (get_or-set_same a n lv no_level h) (levels_under a n lv n (omega arith)))

pub levels_top : (a : List Level) (n : ℕ) → 0 < n → levels a n ≡ level_at a (n - 1) ∷ levels a (n - 1)
levels_top a zero h = absurd (omega arith)
levels_top a (suc n) h = rw (sub-one (suc n)) (levels_suc a n)
