-- What meets a list and has no row that is gone meets the narrower list too, where that asks for more only of rows whose siblings are gone. Assumes nothing.
use mathlib.Core.Path.{◌≡◌, refl, sym, ◌∙◌, ap, subst}
use mathlib.Core.Logic.{◌⊎◌, inl, inr}
use mathlib.Core.Bool.{true}
use mathlib.Core.List.{List, [], ◌∷◌, ◌++◌}
use mathlib.Core.Option.{Option}
use Prim.Native.Nat.{ℕ, zero, suc, ◌-◌, ◌<◌}
use native.Mathlib.Omega.{arith}
use lib.ListN.{length, get_or, set}
use borrow.Author.Tests.{eq-eqb}
use Rattle.text.specs.Lists.{Each}
use Rattle.list.specs.Words.{times}
use Rattle.list.specs.Listing.{Leaf, Kind, Row, Rule, Listing, no_row, row_at, Child, is_group}
use Rattle.list.specs.Content.{Content, end, value, node, rows, items, CountOk, Keeps, Children, ValueOf, Good, Meets}
use Rattle.list.specs.Within.{Within}
use Rattle.list.specs.Changed.{changed, altered, Gone}
use Rattle.list.proofs.Within.{child_within, theirs_without}

-- ---- the two parts of a list

pub each_first : {A : Type 0} (P : A → Type 0) (a b : List A) → Each P (a ++ b) → Each P a
each_first P [] b h = tt
each_first P (x ∷ a) b h = (h.0, each_first P a b h.1)

pub each_last : {A : Type 0} (P : A → Type 0) (a b : List A) → Each P (a ++ b) → Each P b
each_last P [] b h = h
each_last P (x ∷ a) b h = each_last P a b h.1

-- ---- the rows of which a narrower list asks for more

-- what l asks of row r, where it is there at all and m allows it; and the siblings of r are gone
pub record Alone (l m : Listing) (r : ℕ) : Type 0 where
  pub once : (n : ℕ) → 0 < n → CountOk (row_at m r).count n → CountOk (row_at l r).count n
  pub siblings : (q : ℕ) → Child l (row_at l r).parent q → (q ≡ r) ⊎ Gone l q

abbrev pub Likewise : Listing → Listing → ℕ → Type 0
Likewise l m r = (n : ℕ) → CountOk (row_at m r).count n → CountOk (row_at l r).count n

abbrev pub Retires : Listing → Listing → Type 0
Retires l m = (r : ℕ) → Likewise l m r ⊎ Alone l m r

set_row : (rs : List Row) (i : ℕ) (x : Row) (j : ℕ) → (get_or (set rs i x) j no_row ≡ get_or rs j no_row) ⊎ (i ≡ j)
set_row [] i x j = inl refl
set_row (y ∷ rs) zero x zero = inr refl
set_row (y ∷ rs) zero x (suc j) = inl refl
set_row (y ∷ rs) (suc i) x zero = inl refl
set_row (y ∷ rs) (suc i) x (suc j) = elim (set_row rs i x j) [
  | inl e ↦ inl e
  | inr e ↦ inr (ap (λ (n : ℕ). suc n) e)
]

-- a row of a changed list is the former one, or among those that are changed
changed_row : (P : ℕ → Type 0) (rs : List Row) (cs : List (ℕ × Row)) → Each (λ c. P (suc (c.0 - 1))) cs → (j : ℕ) → (get_or (changed rs cs) j no_row ≡ get_or rs j no_row) ⊎ P (suc j)
changed_row P rs [] h j = inl refl
changed_row P rs (c ∷ cs) h j = elim (set_row rs (c.0 - 1) c.1 j) [
  | inr e ↦ inr (subst (λ (n : ℕ). P (suc n)) e h.0)
  | inl e ↦ elim (changed_row P (set rs (c.0 - 1) c.1) cs h.1 j) [
    | inl f ↦ inl (f ∙ e)
    | inr p ↦ inr p
  ]
]

-- it is enough that each row that is changed is one of the two
pub retires_altered : (m : Listing) (cs : List (ℕ × Row)) → Each (λ c. Likewise (altered m cs) m (suc (c.0 - 1)) ⊎ Alone (altered m cs) m (suc (c.0 - 1))) cs → Retires (altered m cs) m
unfolding row_at
retires_altered m cs h zero = inl (λ n o. o)
retires_altered m cs h (suc j) = elim (changed_row (λ r. Likewise (altered m cs) m r ⊎ Alone (altered m cs) m r) m.rows cs h j) [
  | inl e ↦ inl (λ n o. subst (λ (x : Row). CountOk x.count n) (sym e) o)
  | inr p ↦ p
]

-- ---- contents

module _ {A : Type 0} where
  rows_of : (P : ℕ → Type 0) (c : Content A) → Each (λ i. P i.0) (items c) → Each P (rows c)
  rows_of P end h = tt
  rows_of P (value r v k) h = (h.0, rows_of P k h.1)
  rows_of P (node r c k) h = (h.0, rows_of P k (each_last (λ (i : ℕ × Option A). P i.0) (items c) (items k) h.1))

-- the only child that is left is there, where any is
pub one_left : (l : Listing) (p r : ℕ) (rs : List ℕ) → ((q : ℕ) → Child l p q → (q ≡ r) ⊎ Gone l q) → 0 < length rs → Each (Child l p) rs → Each (λ q. Gone l q → ⊥) rs → 0 < times r rs
one_left l p r [] f h t g = absurd (omega arith)
one_left l p r (q ∷ rs) f h t g = elim (f q t.0) [
  | inl e ↦ rw (eq-eqb q r e) (omega arith)
  | inr e ↦ absurd (g.0 e)
]

module _ (l m : Listing) (w : Within l m) (t : Retires l m) where
  children_of : (p : ℕ) (rs : List ℕ) → Children m p rs → Each (λ q. Gone l q → ⊥) rs → Children l p rs
  children_of p rs h g = record {
    nonempty = h.nonempty;
    theirs = theirs_without l m w p rs h.theirs;
    order = h.order;
    counts = λ r c.
        let o = h.counts r (child_within l m w p r c) in
        elim (t r) [
          | inl f ↦ f (times r rs) o
          | inr a ↦ a.once (times r rs) (one_left l p r rs (λ q d. a.siblings q (subst (λ (z : ℕ). Child l z q) (sym c.parent) d)) h.nonempty (theirs_without l m w p rs h.theirs) g) o
        ];
    single = λ e. h.single (sym (w.kinds p) ∙ e);
    rules = subst (λ (qs : List Rule). Each (Keeps p rs) qs) (sym w.rules) h.rules;
  }

  module _ {A : Type 0} (Is : Leaf → A → Type 0) where
    abbrev None : Content A → Type 0
    None c = Each (λ i. Gone l i.0 → ⊥) (items c)

    good_of : (c : Content A) → Good Is m c → None c → Good Is l c
    good_of end g h = tt
    good_of (value r v k) g h = (subst (λ (x : Kind). ValueOf Is l x v) (sym (w.kinds r)) g.0, good_of k g.1 h.1)
    good_of (node r c k) g h =
        let a = each_first (λ (i : ℕ × Option A). Gone l i.0 → ⊥) (items c) (items k) h.1 in (
          (subst (λ (x : Kind). is_group x ≡ true) (sym (w.kinds r)) g.0.0, children_of r (rows c) g.0.1 (rows_of (λ q. Gone l q → ⊥) c a)),
          good_of c g.1 a,
          good_of k g.2 (each_last (λ (i : ℕ × Option A). Gone l i.0 → ⊥) (items c) (items k) h.1),
        )

    pub present_of : (c : Content A) → Meets Is m c → None c → Meets Is l c
    present_of c h g = record { root = h.root; good = good_of c h.good g }
