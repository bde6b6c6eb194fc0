-- Slashes: none first, none last, none beside another. Assumes nothing.
use mathlib.Core.Path.{◌≡◌, refl, sym, ◌∙◌, ap}
use mathlib.Core.Bool.{Bool, true, false, ◌&&◌, not, true≢false, and-false}
use mathlib.Core.Logic.{◌≢◌}
use mathlib.Core.List.{List, [], ◌∷◌, ◌++◌}
use Prim.Native.Nat.{ℕ, suc, ◌+◌, ◌≤◌, ◌<◌}
use native.Mathlib.Numerals.{add-one}
use lib.Dec.{eqb}
use lib.ListN.{length, get_or, drop, drop_of_length-le}
use lib.Seq.{drop-cons}
use borrow.Author.Tests.{eqb-true, eq-eqb, ne_eqb}
use Rattle.value.specs.types.Text.{is_ref}
use Rattle.value.specs.mirror.Texts.{quiet_ref}
use Rattle.value.proofs.classes.Computed.{slash_ref, quiet_is}
use Rattle.value.specs.mirror.Tests.{every, apart}
use Rattle.value.proofs.stored.texts.Classes.{no_word}

-- ---- a loop over the characters of a reference, from i on, after a slash or not

module _ (s : List ℕ) (i : ℕ) (slash : Bool) (r : Bool) (w : (every is_ref (drop i s) && apart slash (drop i s)) ≡ r) where
  pub spaced_end : length s ≤ i → not slash ≡ r
  unfolding every apart
  spaced_end h = ap (λ (l : List ℕ). every is_ref l && apart slash l) (sym (drop_of_length-le s h)) ∙ w

  module _ (h : i < length s) where
    go_on : (c : Bool) → eqb (get_or s i 0) 47 ≡ c → is_ref (get_or s i 0) ≡ true → (slash && c) ≡ false → (every is_ref (drop (i + 1) s) && apart c (drop (i + 1) s)) ≡ r
    unfolding every apart
    go_on c z e f = sym (rw (add-one i, drop-cons s i 0, e, z, f)) ∙ w

    pub spaced_word : quiet_ref (get_or s i 0) ≡ true → (every is_ref (drop (i + 1) s) && apart false (drop (i + 1) s)) ≡ r
    spaced_word e = let k = quiet_is (get_or s i 0) e in go_on false (ne_eqb (get_or s i 0) 47 k.1) k.0 (and-false slash)

    pub spaced_bad : quiet_ref (get_or s i 0) ≡ false → get_or s i 0 ≢ 47 → false ≡ r
    unfolding every apart
    spaced_bad e n = sym (rw (drop-cons s i 0, no_word (get_or s i 0) e n)) ∙ w

    pub spaced_slash : get_or s i 0 ≡ 47 → slash ≡ false → (every is_ref (drop (i + 1) s) && apart true (drop (i + 1) s)) ≡ r
    spaced_slash e f = go_on true (eq-eqb (get_or s i 0) 47 e) (ap is_ref e ∙ sym slash_ref) (rw f)

    pub spaced_twice : get_or s i 0 ≡ 47 → slash ≡ true → false ≡ r
    unfolding every apart
    spaced_twice e f = sym (rw (drop-cons s i 0, eq-eqb (get_or s i 0) 47 e, f) (and-false (is_ref (get_or s i 0) && every is_ref (drop (suc i) s)))) ∙ w

-- ---- what it says

no_last : (p : Bool) (t : List ℕ) → apart p (t ++ (47 ∷ [])) ≡ false
unfolding apart
no_last p [] = and-false (not (p && true))
no_last p (x ∷ t) = rw (no_last (eqb x 47) t) (and-false (not (p && eqb x 47)))

no_twice : (p : Bool) (t u : List ℕ) → apart p (t ++ (47 ∷ 47 ∷ u)) ≡ false
unfolding apart
no_twice p [] u = and-false (not (p && true))
no_twice p (x ∷ t) u = rw (no_twice (eqb x 47) t u) (and-false (not (p && eqb x 47)))

-- characters after a slash, or at the start, if p says so
pub record Apart (p : Bool) (cs : List ℕ) : Type 0 where
  pub first : p ≡ true → (t : List ℕ) → cs ≡ 47 ∷ t → ⊥
  pub last : (t : List ℕ) → cs ≡ t ++ (47 ∷ []) → ⊥
  pub twice : (t u : List ℕ) → cs ≡ t ++ (47 ∷ 47 ∷ u) → ⊥

pub apart_to : (cs : List ℕ) → apart true cs ≡ true → Apart true cs
unfolding apart
apart_to cs e =
    record {
      first = λ _ t z. true≢false (sym e ∙ ap (apart true) z);
      last = λ t z. true≢false (sym e ∙ ap (apart true) z ∙ no_last true t);
      twice = λ t u z. true≢false (sym e ∙ ap (apart true) z ∙ no_twice true t u);
    }

pub apart_from : (p : Bool) (cs : List ℕ) → (p ≡ true → cs ≡ [] → ⊥) → Apart p cs → apart p cs ≡ true
unfolding apart
apart_from true [] n a = absurd (n refl refl)
apart_from false [] n a = refl
apart_from p (c ∷ cs) n a = go p (eqb c 47) refl refl (apart_from (eqb c 47) cs none behind)
  where
    none : eqb c 47 ≡ true → cs ≡ [] → ⊥
    none e z = let k : c ≡ 47 = eqb-true c 47 e in a.last [] (cc)

    behind : Apart (eqb c 47) cs
    behind =
        record {
          first = λ e t z. let k : c ≡ 47 = eqb-true c 47 e in a.twice [] t (cc);
          last = λ t z. a.last (c ∷ t) (ap (λ (l : List ℕ). c ∷ l) z);
          twice = λ t u z. a.twice (c ∷ t) u (ap (λ (l : List ℕ). c ∷ l) z);
        }

    go : (q x : Bool) → p ≡ q → eqb c 47 ≡ x → apart (eqb c 47) cs ≡ true → (not (q && x) && apart (eqb c 47) cs) ≡ true
    go true true z e f = absurd (a.first z cs (ap (λ (y : ℕ). y ∷ cs) (eqb-true c 47 e)))
    go true false z e f = f
    go false x z e f = f
