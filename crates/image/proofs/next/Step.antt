-- What the code finds in sound tables is which row may come next. Assumes nothing.
use mathlib.Core.Path.{◌≡◌, refl, sym, ◌∙◌, subst}
use mathlib.Core.Logic.{◌⊎◌, inl, inr, ⊎_elim}
use mathlib.Core.Bool.{Bool, true, false, cond, ◌&&◌, not, true≢false, false≢true}
use mathlib.Core.List.{List, [], ◌∷◌}
use Prim.Native.Nat.{ℕ, zero, suc, ◌≤◌, ◌<◌}
use native.Mathlib.Omega.{arith}
use lib.Dec.{leb, ltb, eqb}
use borrow.Author.Tests.{eq-eqb, ne_eqb, eqb-true, eqb-false, lt-ltb, ltb-true, le-ltb, le-leb, leb-true, lt-leb}
use Rattle.text.proofs.Classes.{and_is, or_is}
use Rattle.list.specs.Listing.{Kind, group, choice, leaf, Rule, both, Listing, size, row_at, Child, is_group, is_choice, required, next_due, up}
use Rattle.list.specs.tables.Table.{cell}
use Rattle.list.specs.tables.Sound.{first_of, second_of}
use Rattle.list.proofs.rows.Next.{next_due_lem, none_due}
use Rattle.image.specs.mirror.Follow.{repeats, parent_of, count_of, kind_of, Simple, Compound, paired, ruled, due, Clear, Fits, Shut, Climb, beside as side, out, Next, down, on, Over, top}
use Rattle.image.specs.mirror.Step.{is_leaf, again, owed, before, mated, in_order, beside, inside, climbs, follows, rests, ended}
use Rattle.image.proofs.content.Levels.{or_neither}
use Rattle.image.proofs.content.Rows.{Cmp, less, same, more, cmp, or_left, or_right, clash, next_in_lem, Well}

-- a test and what it says
pub record Says (b : Bool) (P : Type 0) : Type 0 where
  pub so : b ≡ true → P
  pub back : P → b ≡ true

pub map_is : {b : Bool} {P Q : Type 0} → (P → Q) → (Q → P) → Says b P → Says b Q
map_is f g s = record { so = λ e. f (s.so e); back = λ h. s.back (g h) }

le_is : (a b : ℕ) → Says (leb a b) (a ≤ b)
le_is a b = record { so = leb-true a b; back = le-leb a b }

eq_is : (a b : ℕ) → Says (eqb a b) (a ≡ b)
eq_is a b = record { so = eqb-true a b; back = eq-eqb a b }

-- a test that refuses first, and one that accepts first
then_go : (a b : Bool) {P Q : Type 0} → Says a P → Says b Q → Says (cond a b false) (P × Q)
then_go true b s t = record { so = λ e. (s.so refl, t.so e); back = λ h. t.back h.1 }
then_go false b s t = record { so = λ e. absurd (false≢true e); back = λ h. s.back h.0 }

pub then_is : {a b : Bool} {P Q : Type 0} → Says a P → Says b Q → Says (cond a b false) (P × Q)
then_is {a} {b} s t = then_go a b s t

not_go : (a b : Bool) {P Q : Type 0} → Says a P → Says b Q → Says (cond a false b) ((P → ⊥) × Q)
not_go true b s t = record { so = λ e. absurd (false≢true e); back = λ h. absurd (h.0 (s.so refl)) }
not_go false b s t = record { so = λ e. ((λ p. false≢true (s.back p)), t.so e); back = λ h. t.back h.1 }

pub not_is : {a b : Bool} {P Q : Type 0} → Says a P → Says b Q → Says (cond a false b) ((P → ⊥) × Q)
not_is {a} {b} s t = not_go a b s t

else_go : (a b : Bool) {P Q : Type 0} → Says a P → Says b Q → Says (cond a true b) (P ⊎ Q)
else_go true b s t = record { so = λ e. inl (s.so refl); back = λ h. refl }
else_go false b s t = record { so = λ e. inr (t.so e); back = λ h. ⊎_elim (λ p. absurd (false≢true (s.back p))) (λ q. t.back q) h }

pub else_is : {a b : Bool} {P Q : Type 0} → Says a P → Says b Q → Says (cond a true b) (P ⊎ Q)
else_is {a} {b} s t = else_go a b s t

-- either test, by what the first says
if_go : (a b c : Bool) {P R : Type 0} → Says a P → (P → Says b R) → ((P → ⊥) → Says c R) → Says (cond a b c) R
if_go true b c s t u = t (s.so refl)
if_go false b c s t u = u (λ p. false≢true (s.back p))

-- the two rows of a rule, looked up from either
abbrev Second : List Rule → ℕ → ℕ → Type 0
Second rs q n = ((n ≡ 0) × ((b : ℕ) → paired rs q b ≡ true → ⊥)) ⊎ (paired rs q n ≡ true)

second_of_lem : (rs : List Rule) (q : ℕ) → Second rs q (second_of rs q)
unfolding second_of
second_of_lem [] q = inl (refl, (λ b e. false≢true e))
second_of_lem (both g x y ∷ rs) q = go (eqb x q) refl (second_of_lem rs q)
  where
    go : (t : Bool) → eqb x q ≡ t → Second rs q (second_of rs q) → Second (both g x y ∷ rs) q (cond t y (second_of rs q))
    go true e d = inr (or_left (eqb q x && eqb y y) (paired rs q y) (rw (eq-eqb q x (sym (eqb-true x q e)), eq-eqb y y refl)))
    go false e (inl d) = inl (
      d.0,
      (λ b h. ⊎_elim
          (λ z. eqb-false x q e (sym (eqb-true q x (and_is (eqb q x) (eqb b y) z).0)))
          (λ z. d.1 b z) (or_is (eqb q x && eqb b y) (paired rs q b) h)),
    )
    go false e (inr d) = inr (or_right (eqb q x && eqb (second_of rs q) y) (paired rs q (second_of rs q)) d)

abbrev First : List Rule → ℕ → ℕ → Type 0
First rs x n = ((n ≡ 0) × ((a : ℕ) → paired rs a x ≡ true → ⊥)) ⊎ (paired rs n x ≡ true)

first_of_lem : (rs : List Rule) (x : ℕ) → First rs x (first_of rs x)
unfolding first_of
first_of_lem [] x = inl (refl, (λ b e. false≢true e))
first_of_lem (both g u y ∷ rs) x = go (eqb y x) refl (first_of_lem rs x)
  where
    go : (t : Bool) → eqb y x ≡ t → First rs x (first_of rs x) → First (both g u y ∷ rs) x (cond t u (first_of rs x))
    go true e d = inr (or_left (eqb u u && eqb x y) (paired rs u x) (rw (eq-eqb u u refl, eq-eqb x y (sym (eqb-true y x e)))))
    go false e (inl d) = inl (
      d.0,
      (λ a h. ⊎_elim
          (λ z. eqb-false y x e (sym (eqb-true x y (and_is (eqb a u) (eqb x y) z).1)))
          (λ z. d.1 a z) (or_is (eqb a u && eqb x y) (paired rs a x) h)),
    )
    go false e (inr d) = inr (or_right (eqb (first_of rs x) u && eqb x y) (paired rs (first_of rs x) x) d)

-- what the code reads of a row
pub record Line (t : List ℕ) (l : Listing) (r : ℕ) : Type 0 where
  pub parent : cell t r 0 ≡ (row_at l r).parent
  pub leaf : is_leaf t r ≡ not (is_group (row_at l r).kind)
  pub choice : eqb (cell t r 2) 1 ≡ is_choice (row_at l r).kind
  pub again : again t r ≡ repeats (row_at l r).count
  pub mate : cell t r 8 ≡ first_of l.rules r
  pub pair : cell t r 13 ≡ second_of l.rules r
  pub due_child : cell t r 11 ≡ next_due l r 0
  pub due_sibling : cell t r 12 ≡ next_due l (row_at l r).parent r

pub record Lines (t : List ℕ) (l : Listing) : Type 0 where
  pub rows : cell t 0 0 ≡ size l
  pub line : (r : ℕ) → 0 < r → r ≤ size l → Line t l r

module _ (l : Listing) (w : Well l) where
  -- the lowest row due after q in p
  data Lowest (p q n : ℕ) : Type 0 where
    nothing : n ≡ 0 → ((s : ℕ) → Child l p s → q < s → due l q s ≡ false) → Lowest p q n
    lies : Child l p n → q < n → due l q n ≡ true → ((s : ℕ) → Child l p s → q < s → s < n → due l q s ≡ false) → Lowest p q n

  clear_of : (p q n x : ℕ) → Lowest p q n → Says (before n x) (Clear l p q x)
  unfolding before
  clear_of p q n x (nothing z f) = record { so = λ e s c h g. f s c h; back = λ h. rw (eq-eqb n 0 z) }
  clear_of p q n x (lies c h d f) = map_is
      (λ k. ⊎_elim (λ z. absurd (omega (arith, c.first))) (λ z s cs a g. f s cs a (omega arith)) k)
      (λ k. inr (le k (cmp x n)))
      (else_is (eq_is n 0) (le_is x n))
    where
      le : Clear l p q x → Cmp x n → x ≤ n
      le k (less g) = omega arith
      le k (same g) = omega arith
      le k (more g) = absurd (false≢true (sym (k n c h g) ∙ d))

  shut_of : (p q n : ℕ) → 0 < q → Lowest p q n → Says (eqb n 0) (Shut l p q)
  shut_of p q n a (nothing z f) = record { so = λ e. record { some = a; clear = λ s c h g. f s c h }; back = λ h. eq-eqb n 0 z }
  shut_of p q n a (lies c h d f) = record {
    so = λ e. absurd (omega (arith, c.first, eqb-true n 0 e));
    back = λ k. absurd (false≢true (sym (k.clear n c h (omega (arith, c.last))) ∙ d));
  }

  -- no rule has q first: what is due is what is required
  plain : (p q n : ℕ) → ((b : ℕ) → ruled l q b ≡ true → ⊥) → next_due l p q ≡ n → Lowest p q n
  plain p q zero f e = nothing refl (λ s c h. or_neither (required (count_of l s)) (ruled l q s) (none_due l p q e s c h) (f s))
  plain p q (suc n) f e =
      let d = next_due_lem l p q (suc n) e (omega arith) in
      lies d.its d.above (or_left (required (count_of l (suc n))) (ruled l q (suc n)) d.due)
      (λ s c h g. or_neither (required (count_of l s)) (ruled l q s) (d.lowest s c h g) (f s))

  -- a rule has q first: its second row is the next sibling
  ruling : (p q n : ℕ) → Child l p q → ruled l q n ≡ true → Lowest p q n
  ruling p q n c e =
      let r = w.rules q n e in
      lies (subst (λ (z : ℕ). Child l z n) c.parent r.right) r.order (or_right (required (count_of l n)) (ruled l q n) e)
      (λ s cs h g. absurd (r.next s (subst (λ (z : ℕ). Child l z s) (sym c.parent) cs) h g))

  no_zero : (b : ℕ) → ruled l 0 b ≡ true → ⊥
  no_zero b e = omega (arith, (w.rules 0 b e).left.first)

  module _ (t : List ℕ) (ls : Lines t l) where
    lowest : (p q : ℕ) → Child l p q → Lowest p q (owed t q)
    unfolding owed ruled
    lowest p q c = rw (k.pair, k.due_sibling, c.parent) (go (second_of l.rules q) (second_of_lem l.rules q))
      where
        k : Line t l q
        k = ls.line q c.first c.last

        go : (n : ℕ) → Second l.rules q n → Lowest p q (cond (eqb n 0) (next_due l p q) n)
        go n (inl h) = rw (eq-eqb n 0 h.0) (plain p q (next_due l p q) h.1 refl)
        go n (inr h) = rw (ne_eqb n 0 (λ z. omega (arith, (w.rules q n h).right.first))) (ruling p q n c h)

    lowest_first : (p : ℕ) → 0 < p → p ≤ size l → Lowest p 0 (cell t p 11)
    lowest_first p a b = plain p 0 (cell t p 11) no_zero (sym (ls.line p a b).due_child)

    same_mate : (a b x : ℕ) → ruled l a x ≡ true → ruled l b x ≡ true → Cmp a b → a ≡ b
    same_mate a b x e f (same g) = g
    same_mate a b x e f (less g) = absurd ((w.rules a x e).next b (subst (λ (z : ℕ). Child l z b) (sym (w.rules b x f).right.parent ∙ (w.rules a x e).right.parent) (w.rules b x f).left) g (w.rules b x f).order)
    same_mate a b x e f (more g) = absurd ((w.rules b x f).next a (subst (λ (z : ℕ). Child l z a) (sym (w.rules a x e).right.parent ∙ (w.rules b x f).right.parent) (w.rules a x e).left) g (w.rules a x e).order)

    mated_is : (q x : ℕ) → 0 < x → x ≤ size l → Says (mated t q x) ((a : ℕ) → ruled l a x ≡ true → q ≡ a)
    unfolding mated ruled
    mated_is q x a b = rw (ls.line x a b).mate (go (first_of l.rules x) (first_of_lem l.rules x))
      where
        go : (m : ℕ) → First l.rules x m → Says (cond (eqb m 0) true (eqb m q)) ((a : ℕ) → paired l.rules a x ≡ true → q ≡ a)
        go m (inl d) = record { so = λ e a h. absurd (d.1 a h); back = λ h. rw (eq-eqb m 0 d.0) }
        go m (inr d) = map_is
            (λ h. ⊎_elim (λ z. absurd (omega (arith, (w.rules m x d).left.first))) (λ z a e. sym z ∙ same_mate m a x d e (cmp m a)) h)
            (λ h. inr (sym (h m d)))
            (else_is (eq_is m 0) (eq_is m q))

    -- no rule's second row comes first
    unmated_is : (x : ℕ) → 0 < x → x ≤ size l → Says (eqb (cell t x 8) 0) ((a : ℕ) → ruled l a x ≡ true → 0 ≡ a)
    unfolding ruled
    unmated_is x a b = rw (ls.line x a b).mate (go (first_of l.rules x) (first_of_lem l.rules x))
      where
        go : (m : ℕ) → First l.rules x m → Says (eqb m 0) ((a : ℕ) → paired l.rules a x ≡ true → 0 ≡ a)
        go m (inl d) = record { so = λ e a h. absurd (d.1 a h); back = λ h. eq-eqb m 0 d.0 }
        go m (inr d) = record { so = λ e. absurd (omega (arith, (w.rules m x d).left.first, eqb-true m 0 e)); back = λ h. eq-eqb m 0 (sym (h m d)) }

    order_is : (q x : ℕ) → 0 < x → x ≤ size l → Says (in_order t q x) ((q < x) ⊎ ((q ≡ x) × (repeats (count_of l x) ≡ true)))
    unfolding in_order
    order_is q x a b = rw (ls.line x a b).again (go (repeats (count_of l x)) (eqb q x) refl)
      where
        go : (o e : Bool) → eqb q x ≡ e → Says (cond e o (ltb q x)) ((q < x) ⊎ ((q ≡ x) × (o ≡ true)))
        go o true e = let z : q ≡ x = eqb-true q x e in record { so = λ h. inr (z, h); back = λ h. ⊎_elim (λ k. absurd (omega arith)) (λ k. k.1) h }
        go o false e = record { so = λ h. inl (ltb-true q x h); back = λ h. ⊎_elim (λ k. lt-ltb q x k) (λ k. absurd (eqb-false q x e k.0)) h }

    choice_is : (k : Kind) → Says (is_choice k) (k ≡ choice)
    choice_is group = record { so = λ e. absurd (false≢true e); back = λ h. let z : ◌≡◌ {A = ℕ} 0 1 = cc in absurd (omega arith) }
    choice_is choice = record { so = λ e. refl; back = λ h. refl }
    choice_is (leaf k) = record { so = λ e. absurd (false≢true e); back = λ h. let z : ◌≡◌ {A = ℕ} 0 1 = cc in absurd (omega arith) }

    beside_is : (p q x : ℕ) → 0 < p → p ≤ size l → Child l p q → 0 < x → x ≤ size l → parent_of l x ≡ p → Says (beside t p q x) (Fits l p q x)
    unfolding beside
    beside_is p q x a b cq c d e = rw (ls.line p a b).choice (map_is
        (λ h. record { child = record { first = c; last = d; parent = e }; first = λ k. absurd (h.0 k); order = h.1.0; clear = h.1.1.0; mate = h.1.1.1 })
        (λ h. ((λ k. omega (arith, h.first k, cq.first)), (h.order, (h.clear, h.mate))))
        (not_is (choice_is (kind_of l p)) (then_is (order_is q x c d) (then_is (clear_of p q (owed t q) x (lowest p q cq)) (mated_is q x c d)))))

    inside_is : (q x : ℕ) → 0 < q → q ≤ size l → 0 < x → x ≤ size l → Says (inside t q x) (Fits l q 0 x)
    unfolding inside
    inside_is q x a b c d = rw (ls.line x c d).parent (map_is
        (λ h. record { child = record { first = c; last = d; parent = h.0 }; first = λ k. refl; order = inl c; clear = h.1.0; mate = h.1.1 })
        (λ h. (h.child.parent, (h.clear, h.mate)))
        (then_is (eq_is (parent_of l x) q) (then_is (clear_of q 0 (cell t q 11) x (lowest_first q a b)) (unmated_is x c d))))

    -- where x can come, its parent is an ancestor
    up_low : (r : ℕ) → 0 < r → r ≤ size l → Cmp 1 r → parent_of l r < r
    up_low r a b (less h) = (w.before r h b).1
    up_low r a b (same h) = let e : parent_of l r ≡ 0 = subst (λ (z : ℕ). parent_of l z ≡ 0) h w.root in omega arith
    up_low r a b (more h) = absurd (omega arith)

    climb_low : {x q : ℕ} → q ≤ size l → Climb l x q → parent_of l x ≤ parent_of l q
    climb_low {x} {q} b (side h f) = omega (arith, f.child.parent)
    climb_low {x} {q} b (out h s c) =
        let p = w.before q h b in
        let r = climb_low (omega arith) c in
        let u = up_low (parent_of l q) p.0 (omega arith) (cmp 1 (parent_of l q)) in
        omega arith

    climb_here : (x q : ℕ) → q ≤ size l → parent_of l q ≡ parent_of l x → Climb l x q → Fits l (parent_of l q) q x
    climb_here x q b e (side i f) = f
    climb_here x q b e (out i s c) =
        let p = w.before q i b in
        let r = climb_low (omega arith) c in
        let u = up_low (parent_of l q) p.0 (omega arith) (cmp 1 (parent_of l q)) in
        absurd (omega arith)

    climb_over : {x q : ℕ} → Climb l x q → 1 < q
    climb_over (side h f) = h
    climb_over (out h s c) = h

    climb_out : {x q : ℕ} → (parent_of l q ≡ parent_of l x → ⊥) → Climb l x q → Shut l (parent_of l q) q × Climb l x (parent_of l q)
    climb_out d (side i f) = absurd (d (sym f.child.parent))
    climb_out d (out i s c) = (s, c)

    climbs_is : (k q x : ℕ) → 0 < q → q ≤ size l → up l k q ≡ 0 → 0 < x → x ≤ size l → Says (climbs t k q x) (Climb l x q)
    unfolding climbs
    climbs_is zero q x a b e c d = absurd (omega arith)
    climbs_is (suc k) q x a b e c d = go (cmp 1 q) (λ h. let p = w.before q h b in climbs_is k (parent_of l q) x p.0 (omega arith) e c d)
      where
        here : Line t l q
        here = ls.line q a b

        there : Line t l x
        there = ls.line x c d

        go : Cmp 1 q → (1 < q → Says (climbs t k (parent_of l q) x) (Climb l x (parent_of l q)))
            → Says (cond (leb q 1) false (cond (eqb (cell t q 0) (cell t x 0)) (beside t (cell t x 0) q x) (cond (eqb (owed t q) 0) (climbs t k (cell t q 0) x) false))) (Climb l x q)
        go (same h) r = let n : leb q 1 ≡ true = le-leb q 1 (omega arith) in rw n (record { so = λ z. absurd (false≢true z); back = λ z. absurd (omega (arith, climb_over z)) })
        go (more h) r = absurd (omega arith)
        go (less h) r =
            let n : leb q 1 ≡ false = lt-leb q 1 h in
            rw (n, here.parent, there.parent) (if_go (eqb (parent_of l q) (parent_of l x)) (beside t (parent_of l x) q x) (cond (eqb (owed t q) 0) (climbs t k (parent_of l q) x) false)
            (eq_is (parent_of l q) (parent_of l x))
            (λ z. map_is
            (λ f. side h (subst (λ (y : ℕ). Fits l y q x) (sym z) f))
            (λ f. subst (λ (y : ℕ). Fits l y q x) z (climb_here x q b z f))
            (beside_is (parent_of l x) q x (subst (λ (y : ℕ). 0 < y) z (w.before q h b).0) (subst (λ (y : ℕ). y ≤ size l) z (omega (arith, (w.before q h b).1))) (record { first = a; last = b; parent = z }) c d refl))
            (λ z. map_is (λ f. out h f.0 f.1) (climb_out z)
            (then_is (shut_of (parent_of l q) q (owed t q) a (lowest (parent_of l q) q (record { first = a; last = b; parent = refl }))) (r h))))

    leaf_go : (k : Kind) → Says (not (is_group k)) (is_group k ≡ false)
    leaf_go group = record { so = λ e. absurd (false≢true e); back = λ e. absurd (true≢false e) }
    leaf_go choice = record { so = λ e. absurd (false≢true e); back = λ e. absurd (true≢false e) }
    leaf_go (leaf k) = record { so = λ e. refl; back = λ e. refl }

    leaf_is : (q : ℕ) → 0 < q → q ≤ size l → Says (is_leaf t q) (Simple l q)
    leaf_is q a b = rw (ls.line q a b).leaf (leaf_go (kind_of l q))

    not_simple : (b : Bool) → (b ≡ false → ⊥) → b ≡ true
    not_simple true f = refl
    not_simple false f = absurd (f refl)

    next_leaf : {x q : ℕ} → Simple l q → Next l x q → Climb l x q
    next_leaf s (down n f) = absurd (clash n s)
    next_leaf s (on k c) = c

    next_group : {x q : ℕ} → Compound l q → Next l x q → Fits l q 0 x
    next_group s (down n f) = f
    next_group s (on k c) = absurd (clash s k)

    pub follows_is : (q x : ℕ) → 0 < q → q ≤ size l → Says (follows t q x) (Next l x q)
    unfolding follows
    follows_is q x a b = rw ls.rows (go (cmp 0 x) (cmp (size l) x))
      where
        tested : 0 < x → x ≤ size l → Says (cond (is_leaf t q) (climbs t 16 q x) (inside t q x)) (Next l x q)
        tested c d = if_go (is_leaf t q) (climbs t 16 q x) (inside t q x) (leaf_is q a b)
            (λ s. map_is (λ h. on s h) (next_leaf s) (climbs_is 16 q x a b (w.depth q b) c d))
            (λ s. let g = not_simple (is_group (kind_of l q)) s in map_is (λ h. down g h) (next_group g) (inside_is q x a b c d))

        none_next : ((0 < x) → x ≤ size l → ⊥) → Says false (Next l x q)
        none_next f = record { so = λ e. absurd (false≢true e); back = λ h. absurd (f (next_in_lem l h).0 (next_in_lem l h).1) }

        within : 0 < x → x ≤ size l → Says (cond (eqb x 0) false (cond (ltb (size l) x) false (cond (is_leaf t q) (climbs t 16 q x) (inside t q x)))) (Next l x q)
        within c d = rw (ne_eqb x 0 (λ z. omega arith), le-ltb (size l) x d) (tested c d)

        go : Cmp 0 x → Cmp (size l) x → Says (cond (eqb x 0) false (cond (ltb (size l) x) false (cond (is_leaf t q) (climbs t 16 q x) (inside t q x)))) (Next l x q)
        go (same c) d = rw (eq-eqb x 0 (sym c)) (none_next (λ i j. omega arith))
        go (more c) d = absurd (omega arith)
        go (less c) (less d) = rw (ne_eqb x 0 (λ z. omega arith), lt-ltb (size l) x d) (none_next (λ i j. omega arith))
        go (less c) (same d) = within c (omega arith)
        go (less c) (more d) = within c (omega arith)

    rests_out : {q : ℕ} → 1 < q → Over l q → Shut l (parent_of l q) q × Over l (parent_of l q)
    rests_out h (top e) = absurd (omega arith)
    rests_out h (out i s c) = (s, c)

    rests_is : (k q : ℕ) → 0 < q → q ≤ size l → up l k q ≡ 0 → Says (rests t k q) (Over l q)
    unfolding rests
    rests_is zero q a b e = absurd (omega arith)
    rests_is (suc k) q a b e = go (cmp 1 q) (λ h. let p = w.before q h b in rests_is k (parent_of l q) p.0 (omega arith) e)
      where
        go : Cmp 1 q → (1 < q → Says (rests t k (parent_of l q)) (Over l (parent_of l q))) → Says (cond (leb q 1) true (cond (eqb (owed t q) 0) (rests t k (cell t q 0)) false)) (Over l q)
        go (same h) r = let n : leb q 1 ≡ true = le-leb q 1 (omega arith) in rw n (record { so = λ z. top (sym h); back = λ z. refl })
        go (more h) r = absurd (omega arith)
        go (less h) r =
            let n : leb q 1 ≡ false = lt-leb q 1 h in
            rw (n, (ls.line q a b).parent) (map_is (λ f. out h f.0 f.1) (rests_out h)
            (then_is (shut_of (parent_of l q) q (owed t q) a (lowest (parent_of l q) q (record { first = a; last = b; parent = refl }))) (r h)))

    pub ended_is : (q : ℕ) → 0 < q → q ≤ size l → Says (ended t q) (Simple l q × Over l q)
    unfolding ended
    ended_is q a b = then_is (leaf_is q a b) (rests_is 16 q a b (w.depth q b))
