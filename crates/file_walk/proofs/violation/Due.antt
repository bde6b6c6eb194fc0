-- The lowest required child that has not come, kept as one number. Assumes nothing.
use mathlib.Core.Path.{◌≡◌, refl, sym, ◌∙◌, ap}
use mathlib.Core.Logic.{◌≢◌}
use mathlib.Core.Bool.{true, false, cond, ◌&&◌, not, and-true, false≢true}
use mathlib.Core.List.{List, [], ◌∷◌}
use Prim.Native.Nat.{ℕ, zero, suc, ◌+◌, ◌≤◌, ◌<◌}
use native.Mathlib.Omega.{arith}
use native.Mathlib.Decide.{ℕ_discrete, dec_lt}
use lib.Dec.{eqb}
use borrow.Author.Tests.{eqb-true, eq-eqb, ne_eqb, le-ltb}
use Rattle.text.specs.Lists.{Each}
use Rattle.list.specs.Words.{times, has}
use Rattle.list.specs.Listing.{Listing, row_at, size, Child, required, next_due}
use Rattle.text.proofs.Classes.{and_is}
use Rattle.list.proofs.sound.Tests.{by_cases, clash}
use Rattle.list.proofs.rows.Words.{first_from_none, first_from_some, first_from_is, first_from_zero, first_from_ext, times_hit, times_miss, times_more, has_of, each_at}
use Rattle.list.proofs.rows.Next.{next_due_lem, none_due}
use Rattle.file_walk.specs.First.{absent_row}
use Rattle.file_walk.proofs.violation.Tests.{lack}

-- a row above all others has not come
none_above : (r q : ℕ) (seen : List ℕ) → Each (λ x. x ≤ r) seen → r < q → times q (r ∷ seen) ≡ 0
none_above r q seen a h =
    let z : r ≢ q = omega arith in
    times_miss q r seen z ∙ elim (dec_lt 0 (times q seen)) [ yes k ↦ absurd (let y : q ≤ r = each_at (λ x. x ≤ r) seen q a k in omega arith) | no k ↦ omega arith ]

module _ (l : Listing) where
  pub due_start : (p : ℕ) → next_due l p 0 ≡ absent_row l p []
  unfolding next_due absent_row
  due_start p = first_from_ext (λ r. eqb (row_at l r).parent p && required (row_at l r).count) (λ r. eqb (row_at l r).parent p && (required (row_at l r).count && true)) 1 (size l)
      (λ q a b. ap (λ x. eqb (row_at l q).parent p && x) (sym (and-true (required (row_at l q).count))))

  -- ---- what is lacking, when a row comes

  lack_when : (p q : ℕ) (rs : List ℕ) → lack l p rs q ≡ true → (eqb (row_at l q).parent p ≡ true) × (required (row_at l q).count ≡ true) × (times q rs ≡ 0)
  unfolding lack
  lack_when p q rs e =
      let w = and_is (eqb (row_at l q).parent p) (required (row_at l q).count && not (has q rs)) e in
      let v = and_is (required (row_at l q).count) (not (has q rs)) w.1 in
      (w.0, v.0, elim (dec_lt 0 (times q rs)) [ yes h ↦ absurd (false≢true (sym (ap not (has_of q rs h)) ∙ v.1)) | no h ↦ omega arith ])

  when_lack : (p q : ℕ) (rs : List ℕ) → (row_at l q).parent ≡ p → required (row_at l q).count ≡ true → times q rs ≡ 0 → lack l p rs q ≡ true
  unfolding lack
  when_lack p q rs a b c = rw (eq-eqb (row_at l q).parent p a, b, le-ltb 0 (times q rs) (omega arith))

  -- what was not lacking is not, whatever comes
  lack_less : (p q r : ℕ) (rs : List ℕ) → lack l p rs q ≡ false → lack l p (r ∷ rs) q ≡ false
  lack_less p q r rs e = by_cases (lack l p (r ∷ rs) q)
      (λ y. let w = lack_when p q (r ∷ rs) y in clash (lack l p rs q) (when_lack p q rs (eqb-true (row_at l q).parent p w.0) w.1 (omega (arith, w.2, times_more q r rs))) e)
      (λ n. n)

  lack_came : (p r : ℕ) (rs : List ℕ) → lack l p (r ∷ rs) r ≡ false
  lack_came p r rs = by_cases (lack l p (r ∷ rs) r) (λ y. absurd (omega (arith, (lack_when p r (r ∷ rs) y).2, times_hit r r rs refl))) (λ n. n)

  lack_miss : (p q r : ℕ) (rs : List ℕ) → (r ≡ q → ⊥) → lack l p (r ∷ rs) q ≡ lack l p rs q
  unfolding lack
  lack_miss p q r rs ne = rw (ne_eqb r q ne)

  -- ---- the lowest

  due_other : (p r : ℕ) (seen : List ℕ) → (r ≡ absent_row l p seen → ⊥) → absent_row l p (r ∷ seen) ≡ absent_row l p seen
  unfolding absent_row lack
  due_other p r seen ne = go (absent_row l p seen) refl
    where
      go : (d : ℕ) → absent_row l p seen ≡ d → absent_row l p (r ∷ seen) ≡ absent_row l p seen
      go zero e = first_from_zero (lack l p (r ∷ seen)) 1 (size l) (λ q a b. lack_less p q r seen (first_from_none (lack l p seen) 1 (size l) (omega arith) e q a b)) ∙ sym e
      go (suc d) e =
          let f = first_from_some (lack l p seen) 1 (size l) (suc d) e (omega arith) in
          first_from_is (lack l p (r ∷ seen)) 1 (size l) (suc d)
          (record { passes = lack_miss p (suc d) r seen (λ z. ne (z ∙ sym e)) ∙ f.passes; from = f.from; to = f.to; lowest = λ q a b. lack_less p q r seen (f.lowest q a b) }) ∙ sym e

  due_hit : (p r : ℕ) (seen : List ℕ) → 0 < r → Each (λ x. x ≤ r) seen → r ≡ absent_row l p seen → absent_row l p (r ∷ seen) ≡ next_due l p r
  unfolding absent_row lack
  due_hit p r seen pos a e = go (next_due l p r) refl
    where
      -- up to r nothing is lacking
      low : (q : ℕ) → 1 ≤ q → q ≤ r → lack l p (r ∷ seen) q ≡ false
      low q h k = elim (ℕ_discrete q r) [
        | yes y ↦ ap (lack l p (r ∷ seen)) y ∙ lack_came p r seen
        | no y ↦ lack_less p q r seen ((first_from_some (lack l p seen) 1 (size l) r (sym e) pos).lowest q h (omega arith))
      ]

      -- after r, what is not required
      free : (q : ℕ) → 1 ≤ q → q < 1 + size l → (Child l p q → required (row_at l q).count ≡ false) → lack l p (r ∷ seen) q ≡ false
      free q h k f = by_cases (lack l p (r ∷ seen) q)
          (λ y. let w = lack_when p q (r ∷ seen) y in
          clash (required (row_at l q).count) w.1 (f (record { first = h; last = omega arith; parent = eqb-true (row_at l q).parent p w.0 })))
          (λ n. n)

      go : (d : ℕ) → next_due l p r ≡ d → absent_row l p (r ∷ seen) ≡ next_due l p r
      go zero z = first_from_zero (lack l p (r ∷ seen)) 1 (size l)
          (λ q h k. elim (dec_lt r q) [ yes y ↦ free q h k (λ c. none_due l p r z q c y) | no y ↦ low q h (omega arith) ]) ∙ sym z
      go (suc d) z =
          let n = next_due_lem l p r (suc d) z (omega arith) in
          first_from_is (lack l p (r ∷ seen)) 1 (size l) (suc d) (record {
            passes = when_lack p (suc d) (r ∷ seen) n.its.parent n.due (none_above r (suc d) seen a n.above);
            from = omega arith;
            to = omega (arith, n.its.last);
            lowest = λ q h k. elim (dec_lt r q) [ yes y ↦ free q h (omega (arith, n.its.last)) (λ c. n.lowest q c y k) | no y ↦ low q h (omega arith) ];
          }) ∙ sym z

  -- when r comes: if it was due, the next one is
  pub due_step : (p r d : ℕ) (seen : List ℕ) → 0 < r → Each (λ x. x ≤ r) seen → d ≡ absent_row l p seen → cond (eqb r d) (next_due l p r) d ≡ absent_row l p (r ∷ seen)
  due_step p r d seen pos a e = elim (ℕ_discrete r d) [
    | yes z ↦ rw (eq-eqb r d z) (sym (due_hit p r seen pos a (z ∙ e)))
    | no z ↦ rw (ne_eqb r d z) (e ∙ sym (due_other p r seen (λ y. z (y ∙ sym e))))
  ]
