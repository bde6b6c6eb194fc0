-- The numbers of kinds: a value's width, head and judge by number. Assumes nothing.
use mathlib.Core.Path.{◌≡◌, refl, sym, ap}
use mathlib.Core.Bool.{false}
use mathlib.Core.List.{List}
use Prim.Native.Nat.{ℕ, zero, suc, ◌+◌, ◌≤◌}
use native.Mathlib.Omega.{arith}
use native.Mathlib.Decide.{ℕ_discrete}
use lib.ListN.{take}
use lib.Seq.{take-take}
use Rattle.text.specs.Numbers.{number}
use Rattle.value.specs.mirror.Ends.{width, is_value}

-- each kind by its number, and the numbers that no kind has
pub by_kind : (P : ℕ → Type 0) → P 0 → P 1 → P 2 → P 3 → P 4 → P 5 → P 6 → P 7 → P 8 → P 9 → P 10 → P 11
    → ((c : ℕ) → P (suc (suc (suc (suc (suc (suc (suc (suc (suc (suc (suc (suc c))))))))))))) → (c : ℕ) → P c
by_kind P a b d e f g h i j k l m o zero = a
by_kind P a b d e f g h i j k l m o (suc zero) = b
by_kind P a b d e f g h i j k l m o (suc (suc zero)) = d
by_kind P a b d e f g h i j k l m o (suc (suc (suc zero))) = e
by_kind P a b d e f g h i j k l m o (suc (suc (suc (suc zero)))) = f
by_kind P a b d e f g h i j k l m o (suc (suc (suc (suc (suc zero))))) = g
by_kind P a b d e f g h i j k l m o (suc (suc (suc (suc (suc (suc zero)))))) = h
by_kind P a b d e f g h i j k l m o (suc (suc (suc (suc (suc (suc (suc zero))))))) = i
by_kind P a b d e f g h i j k l m o (suc (suc (suc (suc (suc (suc (suc (suc zero)))))))) = j
by_kind P a b d e f g h i j k l m o (suc (suc (suc (suc (suc (suc (suc (suc (suc zero))))))))) = k
by_kind P a b d e f g h i j k l m o (suc (suc (suc (suc (suc (suc (suc (suc (suc (suc zero)))))))))) = l
by_kind P a b d e f g h i j k l m o (suc (suc (suc (suc (suc (suc (suc (suc (suc (suc (suc zero))))))))))) = m
by_kind P a b d e f g h i j k l m o (suc (suc (suc (suc (suc (suc (suc (suc (suc (suc (suc (suc c)))))))))))) = o c

-- ---- texts, whose length comes first, and the others

module _ (t : List ℕ) where
  pub width_text : (c : ℕ) → 2 ≤ c → c ≤ 5 → 2 + number (take 2 t) ≡ width c t
  unfolding width
  width_text =
      by_kind (λ c. 2 ≤ c → c ≤ 5 → 2 + number (take 2 t) ≡ width c t) (λ h k. absurd (omega arith)) (λ h k. absurd (omega arith)) (λ h k. refl) (λ h k. refl) (λ h k. refl) (λ h k. refl) (λ h k. absurd (omega arith)) (λ h k. absurd (omega arith)) (λ h k. absurd (omega arith)) (λ h k. absurd (omega arith)) (λ h k. absurd (omega arith)) (λ h k. absurd (omega arith)) (λ c h k. absurd (omega arith))

  -- the bytes of a value say how many they are, whatever follows
  pub width_take : (c : ℕ) → width c (take (width c t) t) ≡ width c t
  unfolding width
  width_take = by_kind (λ c. width c (take (width c t) t) ≡ width c t) refl refl first first first first refl refl refl refl refl refl (λ c. refl)
    where
      first : 2 + number (take 2 (take (2 + number (take 2 t)) t)) ≡ 2 + number (take 2 t)
      first = ap (λ (l : List ℕ). 2 + number l) (take-take 2 (2 + number (take 2 t)) t (omega arith))

pub none_value : (c k n : ℕ) (b : List ℕ) → (2 ≤ c → c ≤ 11 → ⊥) → is_value c k n b ≡ false
unfolding is_value
none_value c k n b =
    by_kind (λ c. (2 ≤ c → c ≤ 11 → ⊥) → is_value c k n b ≡ false) (λ f. refl) (λ f. refl)
    (λ f. absurd (f (omega arith) (omega arith))) (λ f. absurd (f (omega arith) (omega arith))) (λ f. absurd (f (omega arith) (omega arith)))
    (λ f. absurd (f (omega arith) (omega arith))) (λ f. absurd (f (omega arith) (omega arith))) (λ f. absurd (f (omega arith) (omega arith)))
    (λ f. absurd (f (omega arith) (omega arith))) (λ f. absurd (f (omega arith) (omega arith))) (λ f. absurd (f (omega arith) (omega arith)))
    (λ f. absurd (f (omega arith) (omega arith))) (λ c f. refl) c

-- a number that is none of these
past : (m c : ℕ) → m ≤ c → (c ≡ m → ⊥) → suc m ≤ c
past m c h f = go (ℕ_discrete c m)
  where
    go : Dec (c ≡ m) → suc m ≤ c
    go (yes e) = absurd (f e)
    go (no e) = omega arith

pub other_value : (c k n : ℕ) (b : List ℕ)
    → (c ≡ 2 → ⊥) → (c ≡ 3 → ⊥) → (c ≡ 4 → ⊥) → (c ≡ 5 → ⊥) → (c ≡ 6 → ⊥) → (c ≡ 7 → ⊥) → (c ≡ 8 → ⊥) → (c ≡ 9 → ⊥) → (c ≡ 10 → ⊥) → (c ≡ 11 → ⊥) → false ≡ is_value c k n b
other_value c k n b d e f g h i j l m o =
    sym (none_value c k n b (λ p q. omega (arith, past 11 c (past 10 c (past 9 c (past 8 c (past 7 c (past 6 c (past 5 c (past 4 c (past 3 c (past 2 c p d) e) f) g) h) i) j) l) m) o)))
