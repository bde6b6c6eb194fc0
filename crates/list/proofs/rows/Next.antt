-- The lowest child above a row, and the lowest required one. Assumes nothing.
use mathlib.Core.Path.{◌≡◌, refl, sym, ◌∙◌, ap}
use mathlib.Core.Bool.{Bool, true, false, ◌&&◌, false≢true}
use Prim.Native.Nat.{ℕ, zero, suc, ◌-◌, ◌≤◌, ◌<◌}
use native.Mathlib.Omega.{arith}
use native.Mathlib.Decide.{dec_lt}
use lib.Dec.{eqb}
use lib.ListN.{get_or-eq_default}
use borrow.Author.Tests.{eqb-true, eq-eqb}
use Rattle.text.proofs.Classes.{and_is}
use Rattle.list.specs.Listing.{Listing, size, no_row, row_at, Child, required, next_due}
use Rattle.list.specs.tables.Sound.{next_child}
use Rattle.list.proofs.sound.Tests.{by_cases, clash}
use Rattle.list.proofs.rows.Words.{first_from_none, first_from_some, first_from_is}

-- a number above the last row is no row
pub row_past : (l : Listing) (r : ℕ) → size l < r → row_at l r ≡ no_row
unfolding row_at
row_past l zero h = absurd (omega arith)
row_past l (suc r) h = get_or-eq_default l.rows no_row (omega arith)

module _ (l : Listing) (p q : ℕ) where
  its : ℕ → Bool
  its r = eqb (row_at l r).parent p

  wanted : ℕ → Bool
  wanted r = eqb (row_at l r).parent p && required (row_at l r).count

  -- r is the lowest child of p above q
  pub record Next (r : ℕ) : Type 0 where
    pub its : Child l p r
    pub above : q < r
    pub lowest : (s : ℕ) → Child l p s → q < s → s < r → ⊥

  -- r is the lowest required one
  pub record Due (r : ℕ) : Type 0 where
    pub its : Child l p r
    pub above : q < r
    pub due : required (row_at l r).count ≡ true
    pub lowest : (s : ℕ) → Child l p s → q < s → s < r → required (row_at l s).count ≡ false

  -- ---- the next child

  pub next_child_lem : (r : ℕ) → next_child l p q ≡ r → 0 < r → Next r
  unfolding next_child its
  next_child_lem r e h =
      let w = first_from_some its (suc q) (size l - q) r e h in
      record {
        its = record { first = h; last = omega (arith, w.from, w.to); parent = eqb-true (row_at l r).parent p w.passes };
        above = w.from;
        lowest = λ s c a b. clash (its s) (eq-eqb (row_at l s).parent p c.parent) (w.lowest s a b);
      }

  pub no_child : next_child l p q ≡ 0 → (s : ℕ) → Child l p s → q < s → ⊥
  unfolding next_child its
  no_child e s c a =
      clash (its s) (eq-eqb (row_at l s).parent p c.parent)
      (first_from_none its (suc q) (size l - q) (omega arith) e s a (omega (arith, c.last)))

  pub child_next : (r : ℕ) → Next r → next_child l p q ≡ r
  child_next r n = go (next_child l p q) refl
    where
      go : (m : ℕ) → next_child l p q ≡ m → next_child l p q ≡ r
      go zero e = absurd (no_child e r n.its n.above)
      go (suc m) e =
          let w = next_child_lem (suc m) e (omega arith) in
          elim (dec_lt (suc m) r) [
            | yes h ↦ absurd (n.lowest (suc m) w.its w.above h)
            | no h ↦ elim (dec_lt r (suc m)) [
              | yes k ↦ absurd (w.lowest r n.its n.above k)
              | no k ↦ e ∙ omega arith
            ]
          ]

  -- ---- the next required child

  pub next_due_lem : (r : ℕ) → next_due l p q ≡ r → 0 < r → Due r
  unfolding next_due wanted
  next_due_lem r e h =
      let w = first_from_some wanted (suc q) (size l) r e h in
      let a = and_is (eqb (row_at l r).parent p) (required (row_at l r).count) w.passes in
      record {
        its = record { first = h; last = last a.1; parent = eqb-true (row_at l r).parent p a.0 };
        above = w.from;
        due = a.1;
        lowest = λ s c b d. sym (rw (eq-eqb (row_at l s).parent p c.parent) refl) ∙ w.lowest s b d;
      }
    where
      last : required (row_at l r).count ≡ true → r ≤ size l
      last f = elim (dec_lt (size l) r) [
        | yes g ↦ absurd (false≢true (sym (ap (λ x. required x.count) (row_past l r g)) ∙ f))
        | no g ↦ omega arith
      ]

  pub none_due : next_due l p q ≡ 0 → (s : ℕ) → Child l p s → q < s → required (row_at l s).count ≡ false
  unfolding next_due wanted
  none_due e s c a =
      sym (rw (eq-eqb (row_at l s).parent p c.parent) refl)
      ∙ first_from_none wanted (suc q) (size l) (omega arith) e s a (omega (arith, c.last))

  pub due_next : (r : ℕ) → Due r → next_due l p q ≡ r
  unfolding next_due wanted
  due_next r d =
      first_from_is wanted (suc q) (size l) r
      (record {
        passes = rw (eq-eqb (row_at l r).parent p d.its.parent) d.due;
        from = d.above;
        to = omega (arith, d.its.last);
        lowest = λ s a b.
            by_cases (eqb (row_at l s).parent p)
            (λ y.
            let c : Child l p s = record { first = omega arith; last = omega (arith, d.its.last); parent = eqb-true (row_at l s).parent p y } in
            rw y (d.lowest s c a b))
            (λ n. rw n refl);
      })
