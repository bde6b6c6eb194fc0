-- In sound tables the lookups answer as the definitions do. Assumes nothing.
use mathlib.Core.Path.{◌≡◌, refl, sym, ◌∙◌, ap, subst}
use mathlib.Core.Bool.{true, false}
use mathlib.Core.Logic.{◌⊎◌, inl, inr}
use mathlib.Core.List.{List}
use Prim.Native.Nat.{ℕ, zero, suc, ◌+◌, ◌-◌, ◌≤◌, ◌<◌}
use native.Mathlib.Omega.{arith}
use native.Mathlib.Decide.{ℕ_discrete, dec_lt}
use lib.Dec.{ltb}
use Rattle.std.proofs.Common.{Option, Some, None, IfSome, MatchOption}
use Rattle.std.specs.Option.{unwrap_or}
use borrow.Author.Tests.{eq-eqb, ne_eqb, ltb-true, lt-ltb}
use Rattle.text.specs.Lists.{same}
use Rattle.list.specs.Listing.{Listing, row_at, size, Child, child, next_due}
use Rattle.list.specs.tables.Table.{cell, name_in, list_of}
use Rattle.list.specs.tables.Sound.{next_child, Sound}
use Rattle.list.specs.mirror.Lookup.{due_after, along, child_along}
use Rattle.list.specs.tables.Means.{DueNext, ChildCalled}
use Rattle.list.proofs.sound.Tests.{by_cases, clash}
use Rattle.list.proofs.rows.Words.{same_eq, same_of}
use Rattle.list.proofs.rows.Rows.{size_is, name_is}
use Rattle.list.proofs.rows.Next.{next_child_lem, no_child}
use Rattle.list.proofs.rows.Child.{Found, child_is, child_zero}

-- ---- the search, a step at a time

module _ (t pool n : List ℕ) (k r : ℕ) where
  pub along_none : r ≡ 0 → along t pool n (suc k) r ≡ 0
  unfolding along
  along_none e = rw (eq-eqb r 0 e) refl

  pub along_here : (r ≡ 0 → ⊥) → same (name_in t pool r) n ≡ true → along t pool n (suc k) r ≡ r
  unfolding along
  along_here h e = rw (ne_eqb r 0 h, e) refl

  pub along_on : (r ≡ 0 → ⊥) → same (name_in t pool r) n ≡ false → along t pool n (suc k) r ≡ along t pool n k (cell t r 10)
  unfolding along
  along_on h e = rw (ne_eqb r 0 h, e) refl

-- the same for a loop that counts down
module _ (t pool n : List ℕ) (k r : ℕ) (some : 0 < k) where
  one_more : k ≡ suc (k - 1)
  one_more = omega arith

  count : along t pool n k r ≡ along t pool n (suc (k - 1)) r
  count = ap (λ m. along t pool n m r) one_more

  pub stop_none : r ≡ 0 → 0 ≡ along t pool n k r
  stop_none e = sym (count ∙ along_none t pool n (k - 1) r e)

  pub stop_here : (r ≡ 0 → ⊥) → same (name_in t pool r) n ≡ true → r ≡ along t pool n k r
  stop_here h e = sym (count ∙ along_here t pool n (k - 1) r h e)

  pub go_on : (r ≡ 0 → ⊥) → same (name_in t pool r) n ≡ false → along t pool n (k - 1) (cell t r 10) ≡ along t pool n k r
  go_on h e = sym (count ∙ along_on t pool n (k - 1) r h e)

-- and for one that has looked at i rows of 255
module _ (t pool n : List ℕ) (r i : ℕ) (some : i < 255) where
  pub go_up : (r ≡ 0 → ⊥) → same (name_in t pool r) n ≡ false → along t pool n (255 - (i + 1)) (cell t r 10) ≡ along t pool n (255 - i) r
  go_up h e =
      let one_less : 255 - (i + 1) ≡ 255 - i - 1 = omega arith in
      ap (λ m. along t pool n m (cell t r 10)) one_less ∙ go_on t pool n (255 - i) r (omega arith) h e

pub stop_end : (t pool n : List ℕ) (k r : ℕ) → k ≡ 0 → 0 ≡ along t pool n k r
unfolding along
stop_end t pool n k r e = rw e refl

-- and for the two searches of `child`: a is what the first finds, o what either does
module _ (t pool n : List ℕ) (p last : ℕ) where
  pub child_by : (a o : Option ℕ) (r : ℕ) → unwrap_or a 0 ≡ along t pool n 255 last → IfSome a (λ x. 0 < x)
      → MatchOption a (unwrap_or o 0 ≡ along t pool n 255 (cell t p 9)) (λ x. o ≡ Some x) → r ≡ unwrap_or o 0 → r ≡ child_along t pool p last n
  unfolding child_along
  child_by None o r e h m f = rw (← e) (f ∙ m)
  child_by (Some x) o r e h m f = rw (← e, lt-ltb 0 x h) (f ∙ ap (λ (y : Option ℕ). unwrap_or y 0) m)

-- ---- under soundness

module _ (t pool : List ℕ) (s : Sound t pool) where
  abbrev l : Listing
  l = list_of t pool

  named : {p r : ℕ} → Child l p r → (row_at l r).name ≡ name_in t pool r
  named {p} {r} c = name_is t pool r c.first (omega (arith, c.last, size_is t pool))

  next : {p r : ℕ} → Child l p r → cell t r 10 ≡ next_child l p r
  next {p} {r} c = (s.derived r c.last).sibling ∙ ap (λ q. next_child l q r) c.parent

  module _ (n : List ℕ) (p : ℕ) where
    -- where the search sets out: at a child, or nowhere
    abbrev Begin : ℕ → Type 0
    Begin r = (r ≡ 0) ⊎ Child l p r

    begin : (q r : ℕ) → next_child l p q ≡ r → Begin r
    begin q zero e = inl refl
    begin q (suc r) e = inr (next_child_lem l p q (suc r) e (omega arith)).its

    -- what it finds is a child of that name
    finds : (k r x : ℕ) → Begin r → along t pool n k r ≡ x → 0 < x → Found l p n x
    unfolding along
    finds zero r x b e h = absurd (omega arith)
    finds (suc k) r x (inl z) e h = absurd (omega (arith, along_none t pool n k r z))
    finds (suc k) r x (inr c) e h =
        let some : r ≡ 0 → ⊥ = λ z. omega (arith, c.first) in
        by_cases (same (name_in t pool r) n)
        (λ y. subst (Found l p n) (sym (along_here t pool n k r some y) ∙ e) (record { its = c; name = named c ∙ same_eq (name_in t pool r) n y }))
        (λ d. finds k (cell t r 10) x (begin r (cell t r 10) (sym (next c))) (sym (along_on t pool n k r some d) ∙ e) h)

    -- and where it finds none, there is none from there on
    finds_none : (k r : ℕ) → Begin r → size l < k + r → along t pool n k r ≡ 0 → (x : ℕ) → Found l p n x → 0 < r → r ≤ x → ⊥
    finds_none zero r b h e x f z a = omega (arith, f.its.last)
    finds_none (suc k) r (inl y) h e x f z a = omega arith
    finds_none (suc k) r (inr c) h e x f z a =
        let some : r ≡ 0 → ⊥ = λ z. omega (arith, c.first) in
        by_cases (same (name_in t pool r) n)
        (λ y. omega (arith, along_here t pool n k r some y))
        (λ d. elim (ℕ_discrete r x) [
          | yes i ↦ clash (same (name_in t pool r) n) (same_of (name_in t pool r) n (sym (named c) ∙ ap (λ y. (row_at l y).name) i ∙ f.name)) d
          | no i ↦ elim (ℕ_discrete (cell t r 10) 0) [
            | yes j ↦ no_child l p r (sym (next c) ∙ j) x f.its (omega arith)
            | no j ↦
                let w = next_child_lem l p r (cell t r 10) (sym (next c)) (omega arith) in
                elim (dec_lt x (cell t r 10)) [
                  | yes m ↦ w.lowest x f.its (omega arith) m
                  | no m ↦
                      finds_none k (cell t r 10) (inr w.its) (omega (arith, w.above)) (sym (along_on t pool n k r some d) ∙ e) x f
                      (omega arith) (omega arith)
                ]
          ]
        ])

    -- from the first child on it finds whatever there is
    first : p ≤ size l → along t pool n 255 (cell t p 9) ≡ child l p n
    first h = go (along t pool n 255 (cell t p 9)) refl
      where
        go : (x : ℕ) → along t pool n 255 (cell t p 9) ≡ x → along t pool n 255 (cell t p 9) ≡ child l p n
        go zero e =
            e ∙ sym (child_zero l p n (λ x f. elim (ℕ_discrete (cell t p 9) 0) [
              | yes j ↦ no_child l p 0 (sym (s.derived p h).child ∙ j) x f.its f.its.first
              | no j ↦
                  let w = next_child_lem l p 0 (cell t p 9) (sym (s.derived p h).child) (omega arith) in
                  elim (dec_lt x (cell t p 9)) [
                    | yes m ↦ w.lowest x f.its f.its.first m
                    | no m ↦ finds_none 255 (cell t p 9) (inr w.its) (omega (arith, s.well.bytes)) e x f (omega arith) (omega arith)
                  ]
            ]))
        go (suc x) e =
            let b = begin 0 (cell t p 9) (sym (s.derived p h).child) in
            e ∙ sym (child_is l p n s.well (suc x) (finds 255 (cell t p 9) (suc x) b e (omega arith)))

    -- a child by its name, whichever came last
    pub child_along_lem : (last : ℕ) → p ≤ size l → (last ≡ 0) ⊎ Child l p last → child_along t pool p last n ≡ child l p n
    unfolding child_along
    child_along_lem last h b =
        by_cases (ltb 0 (along t pool n 255 last))
        (λ y. rw y (sym (child_is l p n s.well (along t pool n 255 last) (finds 255 last (along t pool n 255 last) b refl (ltb-true 0 _ y)))))
        (λ d. rw d (first h))

  -- the next required child of p, after q
  pub due_after_lem : (p q : ℕ) → p ≤ size l → (q ≡ 0) ⊎ Child l p q → due_after t p q ≡ next_due l p q
  unfolding due_after
  due_after_lem p q h (inl e) = rw (eq-eqb q 0 e) ((s.derived p h).due_child ∙ ap (next_due l p) (sym e))
  due_after_lem p q h (inr c) = rw (ne_eqb q 0 (λ z. omega (arith, c.first))) ((s.derived q c.last).due_sibling ∙ ap (λ x. next_due l x q) c.parent)

-- and for the two columns of `due_after`
module _ (t : List ℕ) (p q r : ℕ) where
  pub due_first : q ≡ 0 → r ≡ cell t p 11 → r ≡ due_after t p q
  unfolding due_after
  due_first z e = rw (eq-eqb q 0 z) e

  pub due_other : (q ≡ 0 → ⊥) → r ≡ cell t q 12 → r ≡ due_after t p q
  unfolding due_after
  due_other z e = rw (ne_eqb q 0 z) e

-- ---- the two promises of each lookup: the second follows from the first

module _ (t : List ℕ) (p q r : ℕ) where
  pub due_means : r ≡ due_after t p q → (r ≡ due_after t p q) × DueNext t p q r
  due_means e = (e, (λ pool s h b. e ∙ due_after_lem t pool s p q h b))

  pub child_means : (pool n : List ℕ) → r ≡ child_along t pool p q n → (r ≡ child_along t pool p q n) × ChildCalled t pool p q n r
  child_means pool n e = (e, (λ s h b. e ∙ child_along_lem t pool s n p q h b))
