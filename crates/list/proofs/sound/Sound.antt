-- Tables that pass the computed test are sound: one law for every row, column and rule. Assumes nothing.
use mathlib.Core.Path.{◌≡◌, refl, sym, ◌∙◌, ap, subst}
use mathlib.Core.Bool.{Bool, true, false, ◌&&◌, ◌||◌, not, true≢false, false≢true}
use mathlib.Core.Logic.{◌≢◌, ◌⊎◌, ⊎_elim, inl, inr}
use mathlib.Core.List.{List, [], ◌∷◌}
use Prim.Native.Nat.{ℕ, zero, suc, ◌≤◌, ◌<◌}
use native.Mathlib.Omega.{arith}
use native.Mathlib.Decide.{ℕ_discrete}
use lib.Dec.{eqb, ltb, leb}
use lib.ListN.{length, get_or}
use borrow.Author.Tests.{eqb-true, eq-eqb, ne_eqb, ltb-true, leb-true, lt-leb, not-true, not-false}
use Rattle.text.specs.Bytes.{in_range, is_capital, is_name_start, is_name_part, is_unmarked}
use Rattle.text.specs.Lists.{Each, All, Begins, same}
use Rattle.text.proofs.Classes.{and_is, or_is, or_not, in_range_is}
use Rattle.list.specs.Words.{first_from}
use Rattle.list.specs.Listing.{Leaf, ref, iban, ccy, bool, num, amt, date, dtm, txt, enum, Kind, group, choice, leaf, Count, one, optional, several, any, alternative, Rule, both, Listing, size, row_at, Child, is_group, up}
use Rattle.list.specs.WellFormed.{Fresh, Different, LeafOk, KindOk, BothOk, RuleOk, WellFormed}
use Rattle.list.specs.tables.Table.{list_of}
use Rattle.list.specs.tables.Sound.{next_child, Derived, Sound}
use Rattle.list.specs.tables.Test.{all_of, each, every, begins, among, words_ok, leaf_ok, kind_ok, is_sequence, is_alternative, is_one, is_optional, count_fits, is_child, row_tests, rule_tests, rules_ok, list_tests, derived_tests, well, derived, sound}
use Rattle.list.proofs.sound.Tests.{clash, passed}
use Rattle.list.proofs.rows.Words.{same_eq, same_of, first_from_none}
use Rattle.list.proofs.rows.Next.{next_child_lem}

-- ---- texts

pub every_is : (p : ℕ → Bool) (xs : List ℕ) → every p xs ≡ true → All p xs
unfolding every
every_is p [] e = tt
every_is p (x ∷ xs) e = let w = and_is (p x) (every p xs) e in (w.0, every_is p xs w.1)

pub begins_is : (p q : ℕ → Bool) (xs : List ℕ) → begins p q xs ≡ true → Begins p q xs
unfolding begins
begins_is p q [] e = false≢true e
begins_is p q (x ∷ xs) e = let w = and_is (p x) (every q xs) e in (w.0, every_is q xs w.1)

name_is : (n : List ℕ) → (same n [] || begins is_name_start is_name_part n) ≡ true → (n ≡ []) ⊎ Begins is_name_start is_name_part n
name_is n e =
    ⊎_elim (λ h. inl (same_eq n [] h)) (λ h. inr (begins_is is_name_start is_name_part n h))
    (or_is (same n []) (begins is_name_start is_name_part n) e)

fresh_is : (w : List ℕ) (vs : List (List ℕ)) → among w vs ≡ false → Fresh w vs
unfolding among
fresh_is w [] e = tt
fresh_is w (v ∷ vs) e =
    let o = or_not (same w v) (among w vs) e in
    ((λ i. clash (same w v) (same_of w v i) o.0), fresh_is w vs o.1)

words_are : (ws : List (List ℕ)) → words_ok ws ≡ true → Each (Begins is_capital is_capital) ws × Different ws
unfolding words_ok
words_are [] e = (tt, tt)
words_are (w ∷ ws) e =
    let a = and_is (begins is_capital is_capital w) _ e in
    let b = and_is (not (among w ws)) (words_ok ws) a.1 in
    let c = words_are ws b.1 in
    ((begins_is is_capital is_capital w a.0, c.0), (fresh_is w ws (not-true (among w ws) b.0), c.1))

-- ---- kinds and counts

leaf_is : (k : Leaf) → leaf_ok k ≡ true → LeafOk k
leaf_is ref e = tt
leaf_is iban e = tt
leaf_is ccy e = tt
leaf_is bool e = tt
leaf_is num e = tt
leaf_is amt e = tt
leaf_is date e = tt
leaf_is dtm e = tt
leaf_is (txt k) e = in_range_is 1 140 k e
leaf_is (enum ws) e =
    let w = and_is (in_range 1 255 (length ws)) (words_ok ws) e in
    let d = words_are ws w.1 in
    (in_range_is 1 255 (length ws) w.0, d.0, d.1)

kind_is : (k : Kind) → kind_ok k ≡ true → KindOk k
kind_is group e = tt
kind_is choice e = tt
kind_is (leaf k) e = leaf_is k e

sequence_is : (k : Kind) → is_sequence k ≡ true → k ≡ group
sequence_is group e = refl
sequence_is choice e = absurd (false≢true e)
sequence_is (leaf k) e = absurd (false≢true e)

one_is : (c : Count) → is_one c ≡ true → c ≡ one
one_is one e = refl
one_is optional e = absurd (false≢true e)
one_is several e = absurd (false≢true e)
one_is any e = absurd (false≢true e)
one_is alternative e = absurd (false≢true e)

optional_is : (c : Count) → is_optional c ≡ true → c ≡ optional
optional_is one e = absurd (false≢true e)
optional_is optional e = refl
optional_is several e = absurd (false≢true e)
optional_is any e = absurd (false≢true e)
optional_is alternative e = absurd (false≢true e)

alternative_is : (c : Count) → is_alternative c ≡ true → c ≡ alternative
alternative_is one e = absurd (false≢true e)
alternative_is optional e = absurd (false≢true e)
alternative_is several e = absurd (false≢true e)
alternative_is any e = absurd (false≢true e)
alternative_is alternative e = refl

parent_is : (k : Kind) (c : Count) → count_fits k c ≡ true → is_group k ≡ true
parent_is group c e = refl
parent_is choice c e = refl
parent_is (leaf k) c e = absurd (false≢true e)

counted_is : (k : Kind) (c : Count) → count_fits k c ≡ true → k ≡ group → c ≢ alternative
counted_is k c e g a = true≢false (sym e ∙ ap (λ (x : Kind). count_fits x c) g ∙ ap (λ (x : Count). count_fits group x) a)

uncounted_is : (k : Kind) (c : Count) → count_fits k c ≡ true → k ≡ choice → c ≡ alternative
uncounted_is k c e g = alternative_is c (sym (ap (λ (x : Kind). count_fits x c) g) ∙ e)

-- ---- rows

module _ (l : Listing) where
  each_row : (f : ℕ → Bool) → each l f ≡ true → (r : ℕ) → 0 < r → r ≤ size l → f r ≡ true
  each_row f e r a b =
      not-false (f r) (first_from_none (λ q. not (f q)) 1 (size l) (omega arith) (eqb-true (first_from (λ q. not (f q)) 1 (size l)) 0 e) r a (omega arith))

  is_child_lem : (p r : ℕ) → is_child l p r ≡ true → Child l p r
  is_child_lem p r e =
      let a = and_is (ltb 0 r) _ e in
      let b = and_is (leb r (size l)) _ a.1 in
      record { first = ltb-true 0 r a.0; last = leb-true r (size l) b.0; parent = eqb-true (row_at l r).parent p b.1 }

  both_is : (g a b : ℕ) → all_of (rule_tests l g a b) ≡ true → BothOk l g a b
  unfolding rule_tests
  both_is g a b e =
      let w = passed (rule_tests l g a b) e in
      record {
        left = is_child_lem g a (w 0);
        right = is_child_lem g b (w 1);
        order = ltb-true a b (w 2);
        sequence = sequence_is (row_at l g).kind (w 3);
        counts = (optional_is (row_at l a).count (w 4), optional_is (row_at l b).count (w 5));
        next = λ s c h k.
            let z = each_row (λ s. not (eqb (row_at l s).parent g) || (leb s a || leb b s)) (w 6) s c.first c.last in
            true≢false (sym z ∙ rw (eq-eqb (row_at l s).parent g c.parent, lt-leb s a h, lt-leb b s k) refl);
      }

  rules_are : (qs : List Rule) → rules_ok l qs ≡ true → Each (RuleOk l) qs
  rules_are [] e = tt
  rules_are (both g a b ∷ qs) e = let w = and_is (all_of (rule_tests l g a b)) (rules_ok l qs) e in (both_is g a b w.0, rules_are qs w.1)

  module _ (e : well l ≡ true) where
    -- the tests by their places
    whole : (k : ℕ) → get_or (list_tests l) k true ≡ true
    unfolding well
    whole = passed (list_tests l) e

    row : (p r : ℕ) → Child l p r → (k : ℕ) → get_or (row_tests l p r) k true ≡ true
    row p r c =
        passed (row_tests l p r)
        (subst (λ q. all_of (row_tests l q r) ≡ true) c.parent
        (each_row (λ r. all_of (row_tests l (row_at l r).parent r)) (whole 5) r c.first c.last))

    deep : (r : ℕ) → r ≤ size l → up l 16 r ≡ 0
    unfolding row_at row_tests
    deep zero h = refl
    deep (suc r) h =
        eqb-true (up l 16 (suc r)) 0 (row (row_at l (suc r)).parent (suc r) (record { first = omega arith; last = h; parent = refl }) 0)

    well_formed : WellFormed l
    unfolding row_tests
    well_formed = record {
      bytes = leb-true (size l) 255 (whole 0);
      levels = deep;
      root = (
        ltb-true 0 (size l) (whole 1),
        sequence_is (row_at l 1).kind (whole 2),
        eqb-true (row_at l 1).parent 0 (whole 3),
        one_is (row_at l 1).count (whole 4),
      );
      one_root = λ r c. eqb-true r 1 (row 0 r c 1);
      before = λ p r c. ltb-true p r (row p r c 2);
      parents = λ p r c h. parent_is (row_at l p).kind (row_at l r).count (row p r c 3);
      filled = λ p r c g.
          let q = next_child l r 0 in
          let k = is_group (row_at l r).kind in
          let h = ⊎_elim (λ n. clash k g (not-true k n)) (ltb-true 0 q) (or_is (not k) (ltb 0 q) (row p r c 4)) in
          (q, (next_child_lem l r 0 q refl h).its);
      names = λ p r c. name_is (row_at l r).name (row p r c 5);
      root_name = begins_is is_name_start is_name_part (row_at l 1).name (whole 9);
      apart = λ p r q c d n. elim (ℕ_discrete r q) [
        | yes y ↦ y
        | no y ↦
            let f : ℕ → Bool = λ q. eqb r q || not (eqb (row_at l q).parent p && same (row_at l r).name (row_at l q).name) in
            let z = each_row f (row p r c 6) q d.first d.last in
            absurd (true≢false (sym z
            ∙ rw (ne_eqb r q y, eq-eqb (row_at l q).parent p d.parent, same_of (row_at l r).name (row_at l q).name n) refl))
      ];
      counted = λ p r c g. counted_is (row_at l p).kind (row_at l r).count (row p r c 3) g;
      uncounted = λ p r c g. uncounted_is (row_at l p).kind (row_at l r).count (row p r c 3) g;
      kinds = λ p r c. kind_is (row_at l r).kind (row p r c 7);
      rules = rules_are l.rules (whole 6);
      space = every_is is_unmarked l.space (whole 7);
      byte = in_range_is 1 255 l.byte (whole 8);
    }

-- ---- the columns that follow

module _ (l : Listing) (t : List ℕ) where
  column_is : (r : ℕ) → all_of (derived_tests l t r) ≡ true → Derived t l r
  unfolding derived_tests
  column_is r e =
      let w = passed (derived_tests l t r) e in
      record {
        child = eqb-true _ _ (w 0);
        sibling = eqb-true _ _ (w 1);
        due_child = eqb-true _ _ (w 2);
        due_sibling = eqb-true _ _ (w 3);
        mate = eqb-true _ _ (w 4);
        pair = eqb-true _ _ (w 5);
        level = eqb-true _ _ (w 6);
        words = eqb-true _ _ (w 7);
      }

  columns_are : derived l t ≡ true → (r : ℕ) → r ≤ size l → Derived t l r
  unfolding derived
  columns_are e zero h = column_is 0 (and_is (all_of (derived_tests l t 0)) _ e).0
  columns_are e (suc r) h =
      column_is (suc r) (each_row l (λ r. all_of (derived_tests l t r)) (and_is (all_of (derived_tests l t 0)) _ e).1 (suc r) (omega arith) h)

-- ---- the law

pub is_sound : (t pool : List ℕ) → sound t pool ≡ true → Sound t pool
unfolding sound
is_sound t pool e =
    let w = and_is (well (list_of t pool)) (derived (list_of t pool) t) e in
    record { well = well_formed (list_of t pool) w.0; derived = columns_are (list_of t pool) t w.1 }
