-- Whatever has come so far can be ended: what is due is given its least content. Assumes nothing.
use mathlib.Core.Path.{◌≡◌, refl, sym, ◌∙◌, ap, subst}
use mathlib.Core.Logic.{◌⊎◌, inl, inr, ⊎_elim}
use mathlib.Core.Bool.{Bool, true, false, ◌&&◌, false≢true}
use mathlib.Core.List.{List, [], ◌++◌}
use Prim.Native.Nat.{ℕ, zero, suc, ◌+◌, ◌-◌, ◌≤◌, ◌<◌}
use native.Mathlib.Omega.{arith}
use Rattle.text.proofs.Classes.{and_is, or_is}
use Rattle.list.specs.Listing.{Kind, group, choice, leaf, Listing, size, row_at, Child, is_group}
use Rattle.list.specs.Content.{Content, end, value, node, items}
use Rattle.image.specs.Image.{Values, Lawful, Item}
use lib.Dec.{eqb}
use borrow.Author.Tests.{eq-eqb, eqb-true}
use Rattle.list.specs.Listing.{required}
use Rattle.image.specs.mirror.Follow.{parent_of, count_of, kind_of, Compound, ruled, due, Fits}
use Rattle.image.proofs.content.Derive.{After, Rest, root, more, Takes, after, inside, above}
use Rattle.image.proofs.content.Rows.{Cmp, less, same, more as greater, cmp, Well}

-- the least number above a with a property, up to a + k
pub record Least (P : ℕ → Bool) (a k : ℕ) : Type 0 where
  pub at : ℕ
  pub lo : a < at
  pub hi : at ≤ a + k
  pub is : P at ≡ true
  pub none : (s : ℕ) → a < s → s < at → P s ≡ false

pub least : (P : ℕ → Bool) (a k : ℕ) → Least P a k ⊎ ((s : ℕ) → a < s → s ≤ a + k → P s ≡ false)
least P a zero = inr (λ s h g. absurd (omega arith))
least P a (suc k) = go (P (suc a)) refl (least P (suc a) k)
  where
    first : P (suc a) ≡ false → (s : ℕ) → a < s → (suc a < s → P s ≡ false) → Cmp (suc a) s → P s ≡ false
    first e s h f (less g) = f g
    first e s h f (same g) = subst (λ (z : ℕ). P z ≡ false) g e
    first e s h f (greater g) = absurd (omega arith)

    go : (t : Bool) → P (suc a) ≡ t → Least P (suc a) k ⊎ ((s : ℕ) → suc a < s → s ≤ suc a + k → P s ≡ false) → Least P a (suc k) ⊎ ((s : ℕ) → a < s → s ≤ a + suc k → P s ≡ false)
    go true e r = inl (record { at = suc a; lo = omega arith; hi = omega arith; is = e; none = λ s h g. absurd (omega arith) })
    go false e (inl m) = inl (record { at = m.at; lo = omega (arith, m.lo); hi = omega (arith, m.hi); is = m.is; none = λ s h g. first e s h (λ j. m.none s j g) (cmp (suc a) s) })
    go false e (inr n) = inr (λ s h g. first e s h (λ j. n s j (omega arith)) (cmp (suc a) s))

module _ (vs : Values) (lw : Lawful vs) (l : Listing) (w : Well l) where
  mine : ℕ → ℕ → Bool
  mine p s = eqb (parent_of l s) p

  mine_yes : (p s : ℕ) → Child l p s → mine p s ≡ true
  unfolding mine
  mine_yes p s c = eq-eqb (parent_of l s) p c.parent

  mine_child : (p s : ℕ) → 0 < s → s ≤ size l → mine p s ≡ true → Child l p s
  unfolding mine
  mine_child p s a b e = record { first = a; last = b; parent = eqb-true (parent_of l s) p e }

  left_of_lem : {p : ℕ} (a x : ℕ) → ruled l a x ≡ true → Child l p x → Child l p a
  left_of_lem {p} a x e cx = let r = w.rules a x e in subst (λ (z : ℕ). Child l z a) (sym r.right.parent ∙ cx.parent) r.left

  -- the first child of p fits
  first_fits : (p x : ℕ) → Child l p x → ((s : ℕ) → 0 < s → s < x → mine p s ≡ false) → Fits l p 0 x
  first_fits p x c low = record {
    child = c;
    first = λ k. refl;
    order = inl c.first;
    clear = λ s cs h g. absurd (false≢true (sym (low s h g) ∙ mine_yes p s cs));
    mate = λ a e. let ca = left_of_lem a x e c in absurd (false≢true (sym (low a ca.first (w.rules a x e).order) ∙ mine_yes p a ca));
  }

  no_due : (p q s : ℕ) → 0 < p → Child l p s → kind_of l p ≡ choice → due l q s ≡ true → ⊥
  no_due p q s z c k d = ⊎_elim (λ m. false≢true (rw (w.freed p s c k) at m)) (λ e. kinds_clash (subst (λ (z : ℕ). kind_of l z ≡ choice) (sym c.parent ∙ (w.rules q s e).right.parent) k) (w.rules q s e).sequence) (or_is (required (count_of l s)) (ruled l q s) d)
    where
      kinds_clash : {k : Kind} → k ≡ choice → k ≡ group → ⊥
      kinds_clash a b = let z : ◌≡◌ {A = ℕ} 0 1 = cc in omega arith

  -- the first child after q that is due fits
  due_fits : (p q x : ℕ) → 0 < p → Child l p q → Child l p x → q < x → due l q x ≡ true → ((s : ℕ) → q < s → s < x → (mine p s && due l q s) ≡ false) → Fits l p q x
  due_fits p q x z cq cx h d low = record {
    child = cx;
    first = λ k. absurd (no_due p q x z cx k d);
    order = inl h;
    clear = λ s cs a b. rw (mine_yes p s cs) at (low s a b);
    mate = λ a e. mate a e (or_is (required (count_of l x)) (ruled l q x) d);
  }
    where
      between : (a b s : ℕ) → ruled l a x ≡ true → Child l p s → a < s → s < x → ⊥
      between a b s e cs i j = (w.rules a x e).next s (subst (λ (z : ℕ). Child l z s) (sym cx.parent ∙ (w.rules a x e).right.parent) cs) i j

      meet : (a : ℕ) → ruled l a x ≡ true → ruled l q x ≡ true → Cmp q a → q ≡ a
      meet a e f (same g) = g
      meet a e f (less g) = absurd (between q x a f (left_of_lem a x e cx) g (w.rules a x e).order)
      meet a e f (greater g) = absurd (between a x q e cq g h)

      mate : (a : ℕ) → ruled l a x ≡ true → (required (count_of l x) ≡ true) ⊎ (ruled l q x ≡ true) → q ≡ a
      mate a e (inl m) = absurd (false≢true (rw (w.rules a x e).counts.1 at m))
      mate a e (inr f) = meet a e f (cmp q a)

  -- a group that was just opened, or its child q is over; k rows are left at most
  data Place (k p : ℕ) : ℕ → Type 0 where
    opened : 0 < p → p ≤ size l → Compound l p → size l < p + k → Place k p 0
    within : {q : ℕ} → 0 < p → Child l p q → size l < q + k → Place k p q

  under : (p x : ℕ) → 0 < p → Child l p x → p < x
  under p x h c = omega (arith, (w.before x (above vs l w h c) c.last).1, c.parent)

  abbrev Filled : ℕ → ℕ → Type 0
  Filled p q = (c : Content vs.Value) × After vs l p q c

  -- a child and what follows it
  give : (k p q x : ℕ) → 0 < p → Fits l p q x → size l < x + k → ((p q : ℕ) → Place k p q → Filled p q) → Filled p q
  give k p q x h f b rec = kind (kind_of l x) refl
    where
      rest : Filled p x
      rest = rec p x (within h f.child b)

      kind : (m : Kind) → kind_of l x ≡ m → Filled p q
      kind group e = let i = rec x 0 (opened f.child.first f.child.last (ap is_group e) b) in (node x i.0 rest.0, (f, ap is_group e, i.1, rest.1))
      kind choice e = let i = rec x 0 (opened f.child.first f.child.last (ap is_group e) b) in (node x i.0 rest.0, (f, ap is_group e, i.1, rest.1))
      kind (leaf k) e =
          let v = lw.has k (rw e at (w.kinds x)) in
          (value x v.0 rest.0, (f, rw e v.1, rest.1))

  fill : (k p q : ℕ) → Place k p q → Filled p q
  fill zero p zero (opened a b n h) = absurd (omega arith)
  fill zero p q (within a c h) = absurd (omega (arith, c.last))
  fill (suc k) p zero (opened a b n h) = ⊎_elim
      (λ m. let cx = mine_child p m.at m.lo (omega (arith, m.hi)) m.is in
      give k p 0 m.at a (first_fits p m.at cx m.none) (omega (arith, under p m.at a cx)) (fill k))
      (λ n'. let s = w.filled p a b n in absurd (false≢true (sym (n' s.0 s.1.first (omega (arith, s.1.last))) ∙ mine_yes p s.0 s.1)))
      (least (mine p) 0 (size l))
  fill (suc k) p q (within a c h) = ⊎_elim
      (λ m. let e = and_is (mine p m.at) (due l q m.at) m.is in
      let cx = mine_child p m.at (omega (arith, m.lo)) (omega (arith, m.hi, c.last)) e.0 in
      give k p q m.at a (due_fits p q m.at a c cx m.lo e.1 m.none) (omega (arith, m.lo)) (fill k))
      (λ n. (end, record { some = c.first; clear = λ s cs i j. rw (mine_yes p s cs) at (n s i (omega (arith, c.last))) }))
      (least (λ s. mine p s && due l q s) q (size l - q))

  rest_on : (q : ℕ) → 0 < q → q ≤ size l → (1 < q → (t : List (Item vs)) × Rest vs l (parent_of l q) t) → Cmp 1 q → (t : List (Item vs)) × Rest vs l q t
  rest_on q a b rec (less g) =
      let p = w.before q g b in
      let c = fill (suc (size l)) (parent_of l q) q (within p.0 (record { first = a; last = b; parent = refl }) (omega arith)) in
      let r = rec g in
      (items c.0 ++ r.0, more g c.0 c.1 r.0 refl r.1)
  rest_on q a b rec (same g) = ([], root (sym g) refl)
  rest_on q a b rec (greater g) = absurd (omega arith)

  rest_live : (k q : ℕ) → 0 < q → q ≤ size l → q ≤ k → (t : List (Item vs)) × Rest vs l q t
  rest_live zero q a b h = absurd (omega arith)
  rest_live (suc k) q a b h = rest_on q a b (λ g. let p = w.before q g b in rest_live k (parent_of l q) p.0 (omega arith) (omega arith)) (cmp 1 q)

  -- every row takes something
  pub live : (q : ℕ) → 0 < q → q ≤ size l → (t : List (Item vs)) × Takes vs l q t
  live q a b = go (is_group (row_at l q).kind) refl
    where
      r : (t : List (Item vs)) × Rest vs l q t
      r = rest_live q q a b (omega arith)

      go : (t : Bool) → is_group (row_at l q).kind ≡ t → (t : List (Item vs)) × Takes vs l q t
      go false e = (r.0, after e r.1)
      go true e = let i = fill (suc (size l)) q 0 (opened a b e (omega arith)) in (items i.0 ++ r.0, inside e i.0 i.1 r.0 refl r.1)
