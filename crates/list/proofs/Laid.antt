-- A table over 4,096 cells says what the table says. Assumes nothing.
use mathlib.Core.Path.{◌≡◌, refl, sym, ◌∙◌, ap, ap₂, subst}
use mathlib.Core.Bool.{Bool, true, false, cond}
use mathlib.Core.List.{List, [], ◌∷◌, ◌++◌}
use Prim.Native.Nat.{ℕ, zero, suc, ◌+◌, ◌*◌, ◌≤◌, ◌<◌, min}
use native.Mathlib.Omega.{arith}
use native.Mathlib.Decide.{dec_lt}
use lib.Dec.{leb}
use lib.ListN.{length, get_or, take, drop, length-take, length-replicate}
use lib.Seq.{sets, sets-eq, take_all, get_or-take, get_or-drop}
use borrow.Author.Tests.{leb-true}
use Rattle.list.specs.Listing.{Row, Listing, size}
use Rattle.list.specs.WellFormed.{WellFormed}
use Rattle.list.specs.tables.Table.{cell, row_of, rows_from, rules_from, list_of}
use Rattle.list.specs.tables.Sound.{Derived, Sound}
use Rattle.list.specs.tables.Laid.{onto, zeros, laid}

-- ---- the cells

zeros_length : (k : ℕ) → length (zeros k) ≡ k
zeros_length k = length-replicate k 0

-- zeros, and nothing: one is like the other
zero_at : (k j : ℕ) → get_or (zeros k) j 0 ≡ 0
zero_at zero j = refl
zero_at (suc k) zero = refl
zero_at (suc k) (suc j) = zero_at k j

behind_zeros : (t u : List ℕ) → ((j : ℕ) → get_or u j 0 ≡ 0) → (j : ℕ) → get_or (t ++ u) j 0 ≡ get_or t j 0
behind_zeros [] u h j = h j
behind_zeros (x ∷ t) u h zero = refl
behind_zeros (x ∷ t) u h (suc j) = behind_zeros t u h j

-- stored over k zeros
module _ (t : List ℕ) (k : ℕ) (h : length t ≤ k) where
  over_zeros : sets (zeros k) 0 t ≡ t ++ drop (length t) (zeros k)
  over_zeros =
      let e : 0 + length t ≡ length t = omega arith in
      sets-eq t (zeros k) 0 (omega (arith, zeros_length k)) ∙ ap (λ (n : ℕ). t ++ drop n (zeros k)) e

  over_at : (j : ℕ) → get_or (sets (zeros k) 0 t) j 0 ≡ get_or t j 0
  over_at j =
      ap (λ (l : List ℕ). get_or l j 0) over_zeros
      ∙ behind_zeros t (drop (length t) (zeros k)) (λ i. get_or-drop (length t) (zeros k) i 0 ∙ zero_at k (length t + i)) j

module _ (t : List ℕ) where
  pub laid_at : (j : ℕ) → j < 4096 → get_or (laid t) j 0 ≡ get_or t j 0
  unfolding laid onto
  laid_at j h = over_at (take 4096 t) 4096 (omega (arith, length-take 4096 t)) j ∙ get_or-take 4096 t j 0 h

-- ---- as they are laid: the first n cells of t, and what stood behind them

pub laid_front : (t d u : List ℕ) (n : ℕ) → n ≡ min (length t) 4096 → length d ≡ 4096 → u ≡ take n t → u ++ drop n d ≡ onto t d
unfolding onto
laid_front t d u n e l f =
    ap (λ (x : List ℕ). x ++ drop n d) (f ∙ front (dec_lt 4096 (length t)))
    ∙ ap (λ (m : ℕ). take 4096 t ++ drop m d) (sym long)
    ∙ sym (sets-eq (take 4096 t) d 0 (omega (arith, long)))
  where
    long : 0 + length (take 4096 t) ≡ n
    long = omega (arith, length-take 4096 t)

    front : Dec (4096 < length t) → take n t ≡ take 4096 t
    front (Dec.yes y) = let g : n ≡ 4096 = omega arith in ap (λ (m : ℕ). take m t) g
    front (Dec.no y) = take_all n t (omega arith) ∙ sym (take_all 4096 t (omega arith))

-- ---- tables that are alike in every cell say one list

abbrev Alike : List ℕ → List ℕ → Type 0
Alike t u = (r j : ℕ) → cell t r j ≡ cell u r j

module _ (t u : List ℕ) (e : Alike t u) (pool : List ℕ) where
  row_same : (r : ℕ) → row_of t pool r ≡ row_of u pool r
  unfolding row_of
  row_same r = rw (e r 0, e r 1, e r 2, e r 3, e r 4, e r 5, e r 6, e r 7)

  rows_same : (i k : ℕ) → rows_from t pool i k ≡ rows_from u pool i k
  unfolding rows_from
  rows_same i zero = refl
  rows_same i (suc k) = ap₂ (λ (x : Row) (xs : List Row). x ∷ xs) (row_same i) (rows_same (suc i) k)

  rules_same : (i k : ℕ) → rules_from t i k ≡ rules_from u i k
  unfolding rules_from
  rules_same i zero = refl
  rules_same i (suc k) = rw (e i 8, e i 0, rules_same (suc i) k)

  list_same : list_of t pool ≡ list_of u pool
  unfolding list_of
  list_same = rw (e 0 0, e 0 1, e 0 2, e 0 3, rows_same 1 (cell u 0 0), rules_same 1 (cell u 0 0))

  derived_same : (l : Listing) (r : ℕ) → Derived t l r → Derived u l r
  derived_same l r d = record {
    child = sym (e r 9) ∙ d.child;
    sibling = sym (e r 10) ∙ d.sibling;
    due_child = sym (e r 11) ∙ d.due_child;
    due_sibling = sym (e r 12) ∙ d.due_sibling;
    mate = sym (e r 8) ∙ d.mate;
    pair = sym (e r 13) ∙ d.pair;
    level = sym (e r 14) ∙ d.level;
    words = sym (e r 15) ∙ d.words;
  }

  sound_same : Sound t pool → Sound u pool
  sound_same s = record {
    well = subst WellFormed list_same s.well;
    derived = subst (λ (l : Listing). (r : ℕ) → r ≤ size l → Derived u l r) list_same (λ r h. derived_same (list_of t pool) r (s.derived r h));
  }

-- ---- so does a table over 256 rows: no other row is looked up

module _ (t : List ℕ) where
  pub laid_cell : (r j : ℕ) → cell (laid t) r j ≡ cell t r j
  unfolding cell
  laid_cell r j = go (leb j 15) (leb r 255) refl refl
    where
      go : (a b : Bool) → leb j 15 ≡ a → leb r 255 ≡ b → cond a (cond b (get_or (laid t) (16 * r + j) 0) 0) 0 ≡ cond a (cond b (get_or t (16 * r + j) 0) 0) 0
      go false b f g = refl
      go true false f g = refl
      go true true f g = laid_at t (16 * r + j) (omega (arith, leb-true j 15 f, leb-true r 255 g))

  -- as it is laid over zeros
  pub laid_over : (rows from to : List ℕ) → rows ≡ t → from ≡ zeros 4096 → to ≡ onto rows from → to ≡ laid t
  unfolding laid
  laid_over rows from to e f g = g ∙ ap₂ onto e f

  pub laid_list : (pool : List ℕ) → list_of (laid t) pool ≡ list_of t pool
  laid_list pool = list_same (laid t) t laid_cell pool

  pub laid_sound : (pool : List ℕ) → Sound t pool → Sound (laid t) pool
  laid_sound pool s = sound_same t (laid t) (λ r j. sym (laid_cell r j)) pool s
