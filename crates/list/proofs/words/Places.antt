-- The place of a word among words. Assumes nothing.
use mathlib.Core.Path.{◌≡◌, refl, sym, ◌∙◌, ap}
use mathlib.Core.Bool.{Bool, true, false, cond}
use mathlib.Core.List.{List, [], ◌∷◌}
use Prim.Native.Nat.{ℕ, zero, suc, ◌+◌, ◌≤◌, ◌<◌}
use native.Mathlib.Omega.{arith}
use lib.ListN.{length, get_or}
use borrow.Author.Tests.{le-leb, lt-leb}
use Rattle.text.specs.Lists.{Each, same}
use Rattle.list.specs.WellFormed.{Different}
use Rattle.list.specs.tables.Table.{byte_of, place_from, place_in}
use Rattle.list.proofs.sound.Tests.{by_cases}
use Rattle.list.proofs.rows.Words.{same_eq, same_of}

-- what holds of each word holds of one at its place
each_get : (P : List ℕ → Type 0) (ws : List (List ℕ)) → Each P ws → (k : ℕ) → k < length ws → P (get_or ws k [])
each_get P [] e k h = absurd (omega arith)
each_get P (v ∷ vs) e zero h = e.0
each_get P (v ∷ vs) e (suc k) h = each_get P vs e.1 k (omega arith)

module _ (w : List ℕ) where
  pub place_here : (i : ℕ) (v : List ℕ) (vs : List (List ℕ)) → same v w ≡ true → place_from i (v ∷ vs) w ≡ i
  unfolding place_from
  place_here i v vs e = rw e refl

  pub place_on : (i : ℕ) (v : List ℕ) (vs : List (List ℕ)) → same v w ≡ false → place_from i (v ∷ vs) w ≡ place_from (suc i) vs w
  unfolding place_from
  place_on i v vs e = rw e refl

  -- a word at place j, counted from i
  abbrev At : ℕ → List (List ℕ) → ℕ → Type 0
  At i ws j = (k : ℕ) × (j ≡ i + k) × (k < length ws) × (get_or ws k [] ≡ w)

  found : (i : ℕ) (ws : List (List ℕ)) (j : ℕ) → place_from i ws w ≡ j → 0 < j → At i ws j
  unfolding place_from
  found i [] j e h = absurd (omega arith)
  found i (v ∷ vs) j e h = by_cases (same v w)
      (λ y. (0, omega (arith, place_here i v vs y), omega arith, same_eq v w y))
      (λ n. let f = found (suc i) vs j (sym (place_on i v vs n) ∙ e) h in (suc f.0, omega (arith, f.1), omega (arith, f.2), f.3))

  missing : (i : ℕ) (ws : List (List ℕ)) → 0 < i → place_from i ws w ≡ 0 → (k : ℕ) → k < length ws → get_or ws k [] ≡ w → ⊥
  missing i [] h e k b g = omega arith
  missing i (v ∷ vs) h e zero b g = omega (arith, place_here i v vs (same_of v w g))
  missing i (v ∷ vs) h e (suc k) b g = by_cases (same v w)
      (λ y. omega (arith, place_here i v vs y))
      (λ n. missing (suc i) vs (omega arith) (sym (place_on i v vs n) ∙ e) k (omega arith) g)

  -- words that differ: no other place has it
  only : (i : ℕ) (ws : List (List ℕ)) → Different ws → (k : ℕ) → k < length ws → get_or ws k [] ≡ w → place_from i ws w ≡ i + k
  only i [] d k b g = absurd (omega arith)
  only i (v ∷ vs) d zero b g = place_here i v vs (same_of v w g) ∙ omega arith
  only i (v ∷ vs) d (suc k) b g = by_cases (same v w)
      (λ y. absurd (each_get (λ x. v ≡ x → ⊥) vs d.0 k (omega arith) (same_eq v w y ∙ sym g)))
      (λ n. place_on i v vs n ∙ only (suc i) vs d.1 k (omega arith) g ∙ omega arith)

  -- the word has a place
  pub place_found : (ws : List (List ℕ)) (k : ℕ) → place_in ws w ≡ suc k → (k < length ws) × (get_or ws k [] ≡ w)
  place_found ws k e =
      let f = found 1 ws (suc k) e (omega arith) in
      let z : f.0 ≡ k = omega (arith, f.1) in
      (omega (arith, f.2), ap (λ x. get_or ws x []) (sym z) ∙ f.3)

  pub place_none : (ws : List (List ℕ)) → place_in ws w ≡ 0 → (k : ℕ) → k < length ws → get_or ws k [] ≡ w → ⊥
  place_none ws e k b g = missing 1 ws (omega arith) e k b g

  pub place_is : (ws : List (List ℕ)) → Different ws → (k : ℕ) → k < length ws → get_or ws k [] ≡ w → place_in ws w ≡ suc k
  place_is ws d k b g = only 1 ws d k b g ∙ omega arith

-- ---- a place as one byte

pub byte_near : (n m : ℕ) → n ≡ m → n ≤ 255 → n ≡ byte_of m
byte_near n m e h = sym (ap byte_of (sym e) ∙ ap (λ (b : Bool). cond b n 0) (le-leb n 255 h))

pub byte_far : (n m : ℕ) → n ≡ m → 255 < n → 0 ≡ byte_of m
byte_far n m e h = sym (ap byte_of (sym e) ∙ ap (λ (b : Bool). cond b n 0) (lt-leb n 255 h))
