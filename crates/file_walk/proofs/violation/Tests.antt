-- What it means that the tests of an opening and of a closing tag find nothing. Assumes nothing.
use Rattle.std.specs.Prelude.{Ok}
use mathlib.Core.Path.{◌≡◌, refl, sym, ◌∙◌, ap, subst}
use mathlib.Core.Logic.{◌↔◌, ◌≢◌}
use mathlib.Core.Bool.{Bool, true, false, ◌&&◌, not, xor, true≢false, false≢true}
use mathlib.Core.List.{List, [], ◌∷◌}
use Prim.Native.Nat.{ℕ, ◌≤◌, ◌<◌}
use native.Mathlib.Omega.{arith}
use native.Mathlib.Decide.{ℕ_discrete, dec_lt}
use lib.Dec.{eqb, ltb}
use lib.ListN.{length}
use borrow.Author.Tests.{eqb-true, eqb-false, eq-eqb, ne_eqb, ltb-true, ltb-false, lt-ltb, le-ltb, not-false}
use Rattle.answer.specs.Table as table
use Rattle.text.specs.Lists.{Each}
use Rattle.list.specs.Words.{times, has, Ordered}
use Rattle.list.specs.Listing.{Leaf, Kind, group, choice, leaf, Count, alternative, Rule, both, Listing, row_at, size, Child, child, is_group, is_choice, at_most_once, required}
use Rattle.list.specs.WellFormed.{WellFormed}
use Rattle.list.specs.Content.{CountOk, Keeps, Children}
use Rattle.xml.specs.Message.{Attrs}
use Rattle.file_walk.specs.Types.{Judge}
use Rattle.file_walk.specs.First.{refuse, is_empty, passed, breaks, attrs_ok, absent_row, group_end, closing}
use Rattle.text.proofs.Classes.{or_not}
use Rattle.list.proofs.rows.Child.{child_zero}
use Rattle.list.proofs.rows.Words.{first_from_none, first_from_zero, times_hit, times_miss}
use Rattle.file_walk.proofs.violation.Answers.{or_fine, refuse_no, and_not, imp_and, empty_no, no_empty, empty_yes, passed_no, no_passed}
use Rattle.file_walk.proofs.violation.Opening.{over_count, open_tests}
use Rattle.file_walk.proofs.violation.Steps.{Fits, Steps, ordered, at_most, steps, one_step, step_one, counted, limit, need}

-- ---- the opening tests

-- a leaf has no child
pub no_child : (l : Listing) (p : ℕ) (n : List ℕ) → WellFormed l → (f : Leaf) → 0 < p → (row_at l p).kind ≡ leaf f → child l p n ≡ 0
no_child l p n w f h e = child_zero l p n (λ r g. true≢false (sym (w.parents p r g.its h) ∙ ap is_group e))

pub record Opened (j : Judge) (l : Listing) (kp kr : Kind) (seen : List ℕ) (r : ℕ) (ats : Attrs) : Type 0 where
  pub row : 0 < r
  pub fits : Fits l kp seen r
  pub attrs : attrs_ok j kr ats ≡ true

module _ (j : Judge) (l : Listing) where
  fits_of : (kp : Kind) (seen : List ℕ) (r : ℕ) → is_group kp ≡ true → (not (is_choice kp) && passed r seen) ≡ false → over_count l kp seen r ≡ false → Fits l kp seen r
  fits_of group seen r g a b = (passed_no r seen a, λ e. let z = ltb-false 0 (times r seen) (and_not (at_most_once (row_at l r).count) (has r seen) b e) in omega arith)
  fits_of choice seen r g a b = empty_yes seen (not-false (is_empty seen) b)
  fits_of (leaf k) seen r g a b = absurd (false≢true g)

  of_fits : (kp : Kind) (seen : List ℕ) (r : ℕ) → Fits l kp seen r → ((not (is_choice kp) && passed r seen) ≡ false) × (over_count l kp seen r ≡ false)
  of_fits group seen r f = (no_passed r seen f.0, imp_and (at_most_once (row_at l r).count) (has r seen) (λ e. le-ltb 0 (times r seen) (omega (arith, f.1 e))))
  of_fits choice seen r f = (refl, rw f)
  of_fits (leaf k) seen r f = absurd f

  module _ (kp kr : Kind) (p : ℕ) (seen : List ℕ) (r : ℕ) (ats : Attrs) (o : ℕ) where
    pub opened : is_group kp ≡ true → open_tests j l kp kr p seen r ats o ≡ Ok tt → Opened j l kp kr seen r ats
    opened g e =
        let a = or_fine (refuse (eqb r 0) (table.not_a_child p o)) _ e in
        let b = or_fine (refuse (not (is_choice kp) && passed r seen) (table.out_of_order r o)) _ a.1 in
        let c = or_fine (refuse (over_count l kp seen r) (table.too_many r o)) _ b.1 in
        let d = or_fine (refuse (not (attrs_ok j kr ats)) (table.wrong_attributes r o)) _ c.1 in
        let z = eqb-false r 0 (refuse_no (eqb r 0) (table.not_a_child p o) a.0) in
        record {
          row = elim (dec_lt 0 r) [ yes h ↦ h | no h ↦ absurd (z (omega arith)) ];
          fits = fits_of kp seen r g (refuse_no (not (is_choice kp) && passed r seen) (table.out_of_order r o) b.0) (refuse_no (over_count l kp seen r) (table.too_many r o) c.0);
          attrs = not-false (attrs_ok j kr ats) (refuse_no (not (attrs_ok j kr ats)) (table.wrong_attributes r o) d.0);
        }

    pub opens : Opened j l kp kr seen r ats → open_tests j l kp kr p seen r ats o ≡ Ok tt
    opens w =
        let f = of_fits kp seen r w.fits in
        let z : r ≢ 0 = omega (arith, w.row) in
        rw (ne_eqb r 0 z, f.0, f.1, w.attrs)

-- ---- rules

xor_no : (a b : ℕ) → xor (ltb 0 a) (ltb 0 b) ≡ false → (0 < a) ↔ (0 < b)
unfolding xor
xor_no a b e = elim (dec_lt 0 a) [
  | yes h ↦ elim (dec_lt 0 b) [ yes k ↦ (λ x. k, λ x. h) | no k ↦ absurd (true≢false (sym (rw (lt-ltb 0 a h, le-ltb 0 b (omega arith))) ∙ e)) ]
  | no h ↦ elim (dec_lt 0 b) [ yes k ↦ absurd (true≢false (sym (rw (le-ltb 0 a (omega arith), lt-ltb 0 b k)) ∙ e)) | no k ↦ (λ x. absurd (h x), λ x. absurd (k x)) ]
]

no_xor : (a b : ℕ) → (0 < a) ↔ (0 < b) → xor (ltb 0 a) (ltb 0 b) ≡ false
unfolding xor
no_xor a b f = elim (dec_lt 0 a) [
  | yes h ↦ rw (lt-ltb 0 a h, lt-ltb 0 b (f.0 h))
  | no h ↦ elim (dec_lt 0 b) [ yes k ↦ absurd (h (f.1 k)) | no k ↦ rw (le-ltb 0 a (omega arith), le-ltb 0 b (omega arith)) ]
]

kept : (p : ℕ) (rs : List ℕ) (qs : List Rule) → breaks p rs qs ≡ false → Each (Keeps p rs) qs
kept p rs [] e = tt
kept p rs (both g a b ∷ qs) e =
    let w = or_not (eqb g p && xor (has a rs) (has b rs)) (breaks p rs qs) e in
    (λ z. xor_no (times a rs) (times b rs) (and_not (eqb g p) (xor (has a rs) (has b rs)) w.0 (eq-eqb g p z)), kept p rs qs w.1)

keeps : (p : ℕ) (rs : List ℕ) (qs : List Rule) → Each (Keeps p rs) qs → breaks p rs qs ≡ false
keeps p rs [] k = refl
keeps p rs (both g a b ∷ qs) k =
    rw (imp_and (eqb g p) (xor (has a rs) (has b rs)) (λ z. no_xor (times a rs) (times b rs) (k.0 (eqb-true g p z)))) (keeps p rs qs k.1)

-- ---- the closing tests of a group

module _ (l : Listing) where
  -- p's required child r is not among rs
  unfoldable pub lack : ℕ → List ℕ → ℕ → Bool
  lack p rs r = eqb (row_at l r).parent p && (required (row_at l r).count && not (has r rs))

  none_absent : (p : ℕ) (rs : List ℕ) → absent_row l p rs ≡ 0 → (r : ℕ) → Child l p r → required (row_at l r).count ≡ true → 0 < times r rs
  unfolding absent_row lack
  none_absent p rs e r c q =
      let z : lack p rs r ≡ false = first_from_none (lack p rs) 1 (size l) (omega arith) e r c.first (omega (arith, c.last)) in
      let y : (required (row_at l r).count && not (has r rs)) ≡ false = and_not (eqb (row_at l r).parent p) _ z (eq-eqb (row_at l r).parent p c.parent) in
      ltb-true 0 (times r rs) (not-false (has r rs) (and_not (required (row_at l r).count) (not (has r rs)) y q))

  absent_none : (p : ℕ) (rs : List ℕ) → ((r : ℕ) → Child l p r → required (row_at l r).count ≡ true → 0 < times r rs) → absent_row l p rs ≡ 0
  unfolding absent_row lack
  absent_none p rs f = first_from_zero (lack p rs) 1 (size l) (λ r a b. imp_and (eqb (row_at l r).parent p) (required (row_at l r).count && not (has r rs))
      (λ e. imp_and (required (row_at l r).count) (not (has r rs)) (λ q. rw (lt-ltb 0 (times r rs) (f r (record { first = a; last = omega arith; parent = eqb-true (row_at l r).parent p e }) q)))))

  record Ended (r : ℕ) (rs : List ℕ) : Type 0 where
    some : 0 < length rs
    full : (q : ℕ) → Child l r q → required (row_at l q).count ≡ true → 0 < times q rs
    rules : Each (Keeps r rs) l.rules

  ended : (j : Judge) (r o : ℕ) (rs : List ℕ) → group_end j l r o rs ≡ Ok tt → Ended r rs
  ended j r o rs e =
      let a = or_fine (refuse (is_empty rs) (table.empty r o)) _ e in
      let b = or_fine (refuse (ltb 0 (absent_row l r rs)) (table.absent (absent_row l r rs) o)) _ a.1 in
      let c = or_fine (refuse (breaks r rs l.rules) (table.rule_broken r o)) _ b.1 in
      let z = ltb-false 0 (absent_row l r rs) (refuse_no (ltb 0 (absent_row l r rs)) (table.absent (absent_row l r rs) o) b.0) in
      record { some = empty_no rs (refuse_no (is_empty rs) (table.empty r o) a.0); full = none_absent r rs (omega arith); rules = kept r rs l.rules (refuse_no (breaks r rs l.rules) (table.rule_broken r o) c.0) }

  ends : (j : Judge) (r o : ℕ) (rs : List ℕ) → Ended r rs → group_end j l r o rs ≡ Ok tt
  ends j r o rs w =
      let z : ltb 0 (absent_row l r rs) ≡ false = le-ltb 0 (absent_row l r rs) (omega (arith, absent_none r rs w.full)) in
      rw (no_empty rs w.some, z, keeps r rs l.rules w.rules)

-- one row is there once at most
at_most_one : (q : ℕ) (rs : List ℕ) → length rs ≡ 1 → times q rs ≤ 1
at_most_one q [] e = omega arith
at_most_one q (r ∷ []) e = elim (ℕ_discrete r q) [ yes z ↦ omega (arith, times_hit q r [] z) | no z ↦ omega (arith, times_miss q r [] z) ]
at_most_one q (r ∷ s ∷ rs) e = absurd (omega arith)

order_one : (rs : List ℕ) → length rs ≡ 1 → Ordered rs
order_one [] e = tt
order_one (r ∷ []) e = (tt, tt)
order_one (r ∷ s ∷ rs) e = absurd (omega arith)

no_choice : {P : Type 0} (k : Kind) → k ≡ group → k ≡ choice → P
no_choice k e f = let z : group ≡ choice = sym e ∙ f in let y : ◌≡◌ {A = ℕ} 0 1 = cc in absurd (omega arith)

module _ (j : Judge) (l : Listing) (w : WellFormed l) where
  pub closed : (k : Kind) (r o : ℕ) (ats : Attrs) (rs cs : List ℕ) → is_group k ≡ true → (row_at l r).kind ≡ k → Steps l k [] rs → Each (Child l r) rs
      → closing j l k r o ats rs cs ≡ Ok tt → Children l r rs
  closed group r o ats rs cs g e s c f =
      let z = ended l j r o rs f in
      record {
        nonempty = z.some;
        theirs = c;
        rules = z.rules;
        order = ordered l [] rs s;
        single = λ y. no_choice (row_at l r).kind e y;
        counts = λ q d. counted (row_at l q).count (times q rs) (w.counted r q d e) (λ h. omega (arith, at_most l [] rs q s h (omega arith))) (z.full q d);
      }
  closed choice r o ats rs cs g e s c f =
      let z = ended l j r o rs f in
      let y = step_one l rs s z.some in
      record {
        nonempty = z.some;
        theirs = c;
        rules = z.rules;
        order = order_one rs y;
        single = λ x. y;
        counts = λ q d. subst (λ x. CountOk x (times q rs)) (sym (w.uncounted r q d e)) (at_most_one q rs y);
      }
  closed (leaf k) r o ats rs cs g e s c f = absurd (false≢true g)

  not_required : (c : Count) → c ≡ alternative → required c ≡ true → ⊥
  not_required c e h = false≢true (sym (ap required e) ∙ h)

  pub closes : (k : Kind) (r o : ℕ) (ats : Attrs) (rs cs : List ℕ) → is_group k ≡ true → (row_at l r).kind ≡ k → Children l r rs → (closing j l k r o ats rs cs ≡ Ok tt) × Steps l k [] rs
  closes group r o ats rs cs g e c = (
    ends l j r o rs (record { some = c.nonempty; full = λ q d. need (row_at l q).count (times q rs) (c.counts q d); rules = c.rules }),
    steps l r [] rs c.theirs c.order (λ q z. absurd (omega arith)) (λ q d z. omega (arith, limit (row_at l q).count (times q rs) (c.counts q d) z)),
  )
  closes choice r o ats rs cs g e c = (
    ends l j r o rs (record { some = c.nonempty; full = λ q d z. absurd (not_required (row_at l q).count (w.uncounted r q d e) z); rules = c.rules }),
    one_step l rs (c.single e),
  )
  closes (leaf k) r o ats rs cs g e c = absurd (false≢true g)
