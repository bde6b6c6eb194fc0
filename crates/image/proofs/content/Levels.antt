-- The rows side by side keep to their group exactly when each may come directly after the one before it. Assumes nothing.
use mathlib.Core.Path.{◌≡◌, refl, sym, ◌∙◌, ap, subst}
use mathlib.Core.Logic.{◌↔◌, ◌⊎◌, inl, inr, ⊎_elim}
use mathlib.Core.Bool.{Bool, true, false, ◌||◌, ◌&&◌, true≢false, false≢true}
use mathlib.Core.List.{List, [], ◌∷◌}
use Prim.Native.Nat.{ℕ, suc, ◌≤◌, ◌<◌}
use native.Mathlib.Omega.{arith}
use lib.Dec.{eqb}
use lib.ListN.{length}
use borrow.Author.Tests.{eq-eqb, eqb-true}
use Rattle.text.proofs.Classes.{and_is, or_is, or_not}
use Rattle.text.specs.Lists.{Each}
use Rattle.list.specs.Words.{times, Ordered}
use Rattle.list.specs.Listing.{choice, Count, one, optional, several, any, alternative, Rule, both, Listing, size, Child, required}
use Rattle.list.specs.WellFormed.{RuleOk, WellFormed}
use Rattle.list.specs.Content.{CountOk, Keeps, Children}
use Rattle.image.specs.mirror.Follow.{repeats, parent_of, count_of, kind_of, paired, ruled, due, Clear, Fits, Shut}
use Rattle.list.proofs.rows.Words.{times_hit, times_miss}
use Rattle.image.proofs.content.Rows.{Cmp, less, same, more, cmp, or_left, or_right, Well, well}

-- each at least the one before it, the first at least q
abbrev pub Rising : ℕ → List ℕ → Type 0
Rising q [] = Unit {0}
Rising q (r ∷ rs) = (q ≤ r) × Rising r rs

-- what a group asks of its rows side by side, with the rules by their rows
pub record Level (l : Listing) (p : ℕ) (rs : List ℕ) : Type 0 where
  pub own : Each (Child l p) rs
  pub order : Rising 0 rs
  pub some : 0 < length rs
  pub one : kind_of l p ≡ choice → length rs ≡ 1
  pub counts : (s : ℕ) → Child l p s → CountOk (count_of l s) (times s rs)
  pub rules : (a b : ℕ) → ruled l a b ≡ true → Child l p a → (0 < times a rs) ↔ (0 < times b rs)

-- what is below all is not there
low : (s q : ℕ) (rs : List ℕ) → Rising q rs → s < q → times s rs ≡ 0
low s q [] o h = refl
low s q (r ∷ rs) o h = times_miss s r rs (λ e. omega arith) ∙ low s r rs o.1 (omega arith)

-- counts
within_none : (k : Count) → required k ≡ false → CountOk k 0
within_none one e = absurd (true≢false e)
within_none optional e = omega arith
within_none several e = absurd (true≢false e)
within_none any e = tt
within_none alternative e = omega arith

none_required : (k : Count) → CountOk k 0 → required k ≡ false
none_required one h = absurd (omega arith)
none_required optional h = refl
none_required several h = absurd (omega arith)
none_required any h = refl
none_required alternative h = refl

within_repeats : (k : Count) (n : ℕ) → repeats k ≡ true → CountOk k (suc n)
within_repeats one n e = absurd (false≢true e)
within_repeats optional n e = absurd (false≢true e)
within_repeats several n e = omega arith
within_repeats any n e = tt
within_repeats alternative n e = absurd (false≢true e)

within_one : (k : Count) → CountOk k 1
within_one one = refl
within_one optional = omega arith
within_one several = omega arith
within_one any = tt
within_one alternative = omega arith

repeats_or : (k : Count) (n : ℕ) → CountOk k (suc n) → (repeats k ≡ true) ⊎ (n ≡ 0)
repeats_or one n h = inr (omega arith)
repeats_or optional n h = inr (omega arith)
repeats_or several n h = inl refl
repeats_or any n h = inl refl
repeats_or alternative n h = inr (omega arith)

pub or_neither : (a b : Bool) → a ≡ false → (b ≡ true → ⊥) → (a || b) ≡ false
or_neither a true e f = absurd (f refl)
or_neither a false e f = rw e

module _ (l : Listing) where
  abbrev pub Chain : ℕ → ℕ → List ℕ → Type 0
  Chain p q [] = Shut l p q
  Chain p q (r ∷ rs) = Fits l p q r × Chain p r rs

  -- the rows in p after its child q (0: none yet)
  pub record From (p q : ℕ) (rs : List ℕ) : Type 0 where
    pub own : Each (Child l p) rs
    pub order : Rising q rs
    pub some : (0 < q) ⊎ (0 < length rs)
    pub one : kind_of l p ≡ choice → (q ≡ 0 → length rs ≡ 1) × (0 < q → length rs ≡ 0)
    pub counts : (s : ℕ) → Child l p s → q < s → CountOk (count_of l s) (times s rs)
    pub again : (repeats (count_of l q) ≡ true) ⊎ (times q rs ≡ 0)
    pub rules : (a b : ℕ) → ruled l a b ≡ true → Child l p a → q < a → (0 < times a rs) ↔ (0 < times b rs)
    pub owed : (b : ℕ) → ruled l q b ≡ true → 0 < times b rs

  module _ (w : Well l) where
    -- a row of a rule stands once
    once : (a b : ℕ) → ruled l a b ≡ true → (repeats (count_of l a) ≡ true → ⊥) × (repeats (count_of l b) ≡ true → ⊥)
    once a b e = let r = w.rules a b e in (λ t. false≢true (rw r.counts.0 at t), λ t. false≢true (rw r.counts.1 at t))

    in_rule : {p : ℕ} (a b s : ℕ) → ruled l a b ≡ true → Child l p a → Child l p s → a < s → s < b → ⊥
    in_rule {p} a b s e ca cs h g = (w.rules a b e).next s (subst (λ (z : ℕ). Child l z s) (sym ca.parent) cs) h g

    mate_of : {p : ℕ} (a b : ℕ) → ruled l a b ≡ true → Child l p a → Child l p b
    mate_of a b e ca = subst (λ (z : ℕ). Child l z b) ca.parent (w.rules a b e).right

    required_not : (q s : ℕ) → due l q s ≡ false → required (count_of l s) ≡ false
    required_not q s e = (or_not (required (count_of l s)) (ruled l q s) e).0

    not_ruled : (q s : ℕ) → due l q s ≡ false → ruled l q s ≡ true → ⊥
    not_ruled q s e h = false≢true (sym (or_not (required (count_of l s)) (ruled l q s) e).1 ∙ h)

    -- from the steps to the whole
    chain_order : (p q : ℕ) (rs : List ℕ) → Chain p q rs → Rising q rs
    chain_order p q [] c = tt
    chain_order p q (r ∷ rs) c = (⊎_elim (λ h. omega arith) (λ h. omega arith) c.0.order, chain_order p r rs c.1)

    chain_own : (p q : ℕ) (rs : List ℕ) → Chain p q rs → Each (Child l p) rs
    chain_own p q [] c = tt
    chain_own p q (r ∷ rs) c = (c.0.child, chain_own p r rs c.1)

    chain_again : (p q : ℕ) (rs : List ℕ) → Chain p q rs → (repeats (count_of l q) ≡ true) ⊎ (times q rs ≡ 0)
    chain_again p q [] c = inr refl
    chain_again p q (r ∷ rs) c = ⊎_elim (λ h. inr (times_miss q r rs (λ e. omega arith) ∙ low q r rs (chain_order p r rs c.1) h)) (λ h. inl (subst (λ (z : ℕ). repeats (count_of l z) ≡ true) (sym h.0) h.1)) c.0.order

    chain_one : (p q : ℕ) (rs : List ℕ) → Chain p q rs → kind_of l p ≡ choice → (q ≡ 0 → length rs ≡ 1) × (0 < q → length rs ≡ 0)
    chain_one p q [] c k = (λ e. absurd (omega (arith, c.some)), λ h. refl)
    chain_one p q (r ∷ rs) c k =
        let n = (chain_one p r rs c.1 k).1 c.0.child.first in
        let z = c.0.first k in (λ e. omega arith, λ h. absurd (omega arith))

    count_on : (p q r : ℕ) (rs : List ℕ) → Fits l p q r → Chain p r rs → (s : ℕ) → Child l p s → q < s
        → (r < s → CountOk (count_of l s) (times s rs)) → Cmp s r → CountOk (count_of l s) (times s (r ∷ rs))
    count_on p q r rs f c s cs h rec (less g) =
        rw (times_miss s r rs (λ e. omega arith), low s r rs (chain_order p r rs c) g) (within_none (count_of l s) (required_not q s (f.clear s cs h g)))
    count_on p q r rs f c s cs h rec (same e) =
        rw (times_hit s r rs (sym e)) (subst (λ (z : ℕ). CountOk (count_of l z) (suc (times z rs))) (sym e) (again (chain_again p r rs c)))
      where
        again : (repeats (count_of l r) ≡ true) ⊎ (times r rs ≡ 0) → CountOk (count_of l r) (suc (times r rs))
        again (inl o) = within_repeats (count_of l r) (times r rs) o
        again (inr z) = rw z (within_one (count_of l r))
    count_on p q r rs f c s cs h rec (more g) = rw (times_miss s r rs (λ e. omega arith)) (rec g)

    chain_counts : (p q : ℕ) (rs : List ℕ) → Chain p q rs → (s : ℕ) → Child l p s → q < s → CountOk (count_of l s) (times s rs)
    chain_counts p q [] c s cs h = within_none (count_of l s) (required_not q s (c.clear s cs h (omega (arith, cs.last))))
    chain_counts p q (r ∷ rs) c s cs h = count_on p q r rs c.0 c.1 s cs h (λ g. chain_counts p r rs c.1 s cs g) (cmp s r)

    -- after the first row of a rule comes the second
    owed_on : (p q r b : ℕ) (rs : List ℕ) → Fits l p q r → Child l p q → ruled l q b ≡ true → Cmp r b → 0 < times b (r ∷ rs)
    owed_on p q r b rs f cq e (same g) = rw (times_hit b r rs g) (omega arith)
    owed_on p q r b rs f cq e (less g) = ⊎_elim (λ h. absurd (in_rule q b r e cq f.child h g)) (λ h. absurd ((once q b e).0 (subst (λ (z : ℕ). repeats (count_of l z) ≡ true) (sym h.0) h.1))) f.order
    owed_on p q r b rs f cq e (more g) = absurd (not_ruled q b (f.clear b (mate_of q b e cq) (w.rules q b e).order g) e)

    chain_owed : (p q : ℕ) (rs : List ℕ) → Chain p q rs → Child l p q → (b : ℕ) → ruled l q b ≡ true → 0 < times b rs
    chain_owed p q [] c cq b e = absurd (not_ruled q b (c.clear b (mate_of q b e cq) (w.rules q b e).order (omega (arith, (mate_of q b e cq).last))) e)
    chain_owed p q (r ∷ rs) c cq b e = owed_on p q r b rs c.0 cq e (cmp r b)

    -- neither of two rows that are not there
    neither : (a b : ℕ) (rs : List ℕ) → times a rs ≡ 0 → times b rs ≡ 0 → (0 < times a rs) ↔ (0 < times b rs)
    neither a b rs x y = (λ h. absurd (omega arith), λ h. absurd (omega arith))

    rules_on : (p q r : ℕ) (rs : List ℕ) → Fits l p q r → Chain p r rs → (a b : ℕ) → ruled l a b ≡ true → Child l p a → q < a
        → (r < a → (0 < times a rs) ↔ (0 < times b rs)) → Cmp r a → Cmp r b → (0 < times a (r ∷ rs)) ↔ (0 < times b (r ∷ rs))
    rules_on p q r rs f c a b e ca h rec (less g) d =
        let o = (w.rules a b e).order in
        rw (times_miss a r rs (λ z. omega arith), times_miss b r rs (λ z. omega arith)) (rec g)
    rules_on p q r rs f c a b e ca h rec (same g) d =
        let o = (w.rules a b e).order in
        let cr = f.child in
        let t = chain_owed p r rs c cr b (subst (λ (z : ℕ). ruled l z b ≡ true) (sym g) e) in
        rw (times_hit a r rs g, times_miss b r rs (λ z. omega arith)) ((λ z. t), (λ z. omega arith))
    rules_on p q r rs f c a b e ca h rec (more g) (less k) = absurd (in_rule a b r e ca f.child g k)
    rules_on p q r rs f c a b e ca h rec (more g) (same k) = absurd (omega (arith, f.mate a (subst (λ (z : ℕ). ruled l a z ≡ true) (sym k) e)))
    rules_on p q r rs f c a b e ca h rec (more g) (more k) =
        let o = chain_order p r rs c in
        neither a b (r ∷ rs) (times_miss a r rs (λ z. omega arith) ∙ low a r rs o g) (times_miss b r rs (λ z. omega arith) ∙ low b r rs o k)

    chain_rules : (p q : ℕ) (rs : List ℕ) → Chain p q rs → (a b : ℕ) → ruled l a b ≡ true → Child l p a → q < a → (0 < times a rs) ↔ (0 < times b rs)
    chain_rules p q [] c a b e ca h = neither a b [] refl refl
    chain_rules p q (r ∷ rs) c a b e ca h = rules_on p q r rs c.0 c.1 a b e ca h (λ g. chain_rules p r rs c.1 a b e ca g) (cmp r a) (cmp r b)

    some_of : (rs : List ℕ) (p : ℕ) → Chain p 0 rs → 0 < length rs
    some_of [] p c = absurd (omega (arith, c.some))
    some_of (r ∷ rs) p c = omega arith

    pub chain_level : (p : ℕ) (rs : List ℕ) → Chain p 0 rs → Level l p rs
    chain_level p rs c = record {
      own = chain_own p 0 rs c;
      order = chain_order p 0 rs c;
      some = some_of rs p c;
      one = λ k. (chain_one p 0 rs c k).0 refl;
      counts = λ s cs. chain_counts p 0 rs c s cs cs.first;
      rules = λ a b e ca. chain_rules p 0 rs c a b e ca ca.first;
    }

    -- from the whole to the steps
    from_clear : (p q x : ℕ) (rs : List ℕ) → From p q rs → Rising x rs → Clear l p q x
    from_clear p q x rs f o s cs h g =
        let z : times s rs ≡ 0 = low s x rs o g in
        or_neither (required (count_of l s)) (ruled l q s) (none_required (count_of l s) (rw z at (f.counts s cs h))) (λ e. omega (arith, f.owed s e))

    pub from_first : (p q r : ℕ) (rs : List ℕ) → (q ≡ 0) ⊎ Child l p q → From p q (r ∷ rs) → Fits l p q r
    from_first p q r rs cq f = record {
      child = f.own.0;
      first = λ k. first k (cmp 0 q);
      order = order (cmp q r);
      clear = from_clear p q r (r ∷ rs) f (omega arith, f.order.1);
      mate = λ a e. mate a e (cmp q a);
    }
      where
        here : 0 < times r (r ∷ rs)
        here = rw (times_hit r r rs refl) (omega arith)

        first : kind_of l p ≡ choice → Cmp 0 q → q ≡ 0
        first k (less h) = absurd (omega (arith, (f.one k).1 h))
        first k (same h) = sym h
        first k (more h) = absurd (omega arith)

        twice : q ≡ r → repeats (count_of l r) ≡ true
        twice e = ⊎_elim (λ h. subst (λ (z : ℕ). repeats (count_of l z) ≡ true) e h) (λ h. let z : times r (r ∷ rs) ≡ 0 = subst (λ (z : ℕ). times z (r ∷ rs) ≡ 0) e h in absurd (omega (arith, here))) f.again

        order : Cmp q r → (q < r) ⊎ ((q ≡ r) × (repeats (count_of l r) ≡ true))
        order (less h) = inl h
        order (same h) = inr (h, twice h)
        order (more h) = absurd (omega (arith, f.order.0))

        cr : Child l p r
        cr = f.own.0

        mate : (a : ℕ) → ruled l a r ≡ true → Cmp q a → q ≡ a
        mate a e (same h) = h
        mate a e (less h) =
            let o = (w.rules a r e).order in
            let ca : Child l p a = subst (λ (z : ℕ). Child l z a) (sym (w.rules a r e).right.parent ∙ cr.parent) (w.rules a r e).left in
            let z : times a (r ∷ rs) ≡ 0 = low a r (r ∷ rs) (omega arith, f.order.1) o in
            absurd (omega (arith, (f.rules a r e ca h).1 here))
        mate a e (more h) = absurd (⊎_elim (λ z. omega arith) (λ cq. past cq (cmp q r)) cq)
          where
            past : Child l p q → Cmp q r → ⊥
            past cq (less g) = (w.rules a r e).next q (subst (λ (z : ℕ). Child l z q) (sym cr.parent ∙ (w.rules a r e).right.parent) cq) h g
            past cq (same g) = (once a r e).1 (twice g)
            past cq (more g) = omega (arith, f.order.0)

    from_next : (p q r : ℕ) (rs : List ℕ) → From p q (r ∷ rs) → Fits l p q r → From p r rs
    from_next p q r rs f g = record {
      own = f.own.1;
      order = f.order.1;
      some = inl g.child.first;
      one = λ k. ((λ z. absurd (omega (arith, g.child.first))), (λ h. one k));
      counts = λ s cs h. rw (times_miss s r rs (λ e. omega arith)) at (f.counts s cs (omega (arith, f.order.0)));
      again = ⊎_elim (λ h. repeats_or (count_of l r) (times r rs) (rw (times_hit r r rs refl) at (f.counts r g.child h))) (λ h. inl h.1) g.order;
      rules = λ a b e ca h. let o = (w.rules a b e).order in rw (times_miss a r rs (λ z. omega arith), times_miss b r rs (λ z. omega arith)) at (f.rules a b e ca (omega (arith, f.order.0)));
      owed = λ b e. let o = (w.rules r b e).order in rw (times_miss b r rs (λ z. omega arith)) at (⊎_elim (λ h. (f.rules r b e g.child h).0 here) (λ h. absurd ((once r b e).0 h.1)) g.order);
    }
      where
        here : 0 < times r (r ∷ rs)
        here = rw (times_hit r r rs refl) (omega arith)

        one : kind_of l p ≡ choice → length rs ≡ 0
        one k = let z = g.first k in omega (arith, (f.one k).0 z)

    from_chain : (p q : ℕ) (rs : List ℕ) → (q ≡ 0) ⊎ Child l p q → From p q rs → Chain p q rs
    from_chain p q [] cq f = record { some = ⊎_elim (λ h. h) (λ h. absurd (omega arith)) f.some; clear = from_clear p q (suc (size l)) [] f tt }
    from_chain p q (r ∷ rs) cq f = let g = from_first p q r rs cq f in (g, from_chain p r rs (inr g.child) (from_next p q r rs f g))

    pub level_chain : (p : ℕ) (rs : List ℕ) → Level l p rs → Chain p 0 rs
    level_chain p rs v = from_chain p 0 rs (inl refl) (record {
      own = v.own;
      order = v.order;
      some = inr v.some;
      one = λ k. ((λ z. v.one k), (λ h. absurd (omega arith)));
      counts = λ s cs h. v.counts s cs;
      again = inr (zero_times rs v.own);
      rules = λ a b e ca h. v.rules a b e ca;
      owed = λ b e. absurd (omega (arith, (w.rules 0 b e).left.first));
    })
      where
        zero_times : (rs : List ℕ) → Each (Child l p) rs → times 0 rs ≡ 0
        zero_times [] o = refl
        zero_times (r ∷ rs) o = times_miss 0 r rs (λ e. omega (arith, o.0.first)) ∙ zero_times rs o.1

-- the definition's own words
ordered_rising : (q : ℕ) (rs : List ℕ) → Each (λ r. q ≤ r) rs → Ordered rs → Rising q rs
ordered_rising q [] e o = tt
ordered_rising q (r ∷ rs) e o = (e.0, ordered_rising r rs o.0 o.1)

rising_each : (p q : ℕ) (rs : List ℕ) → p ≤ q → Rising q rs → Each (λ r. p ≤ r) rs
rising_each p q [] h o = tt
rising_each p q (r ∷ rs) h o = (omega arith, rising_each p r rs (omega arith) o.1)

rising_ordered : (q : ℕ) (rs : List ℕ) → Rising q rs → Ordered rs
rising_ordered q [] o = tt
rising_ordered q (r ∷ rs) o = (rising_each r r rs (omega arith) o.1, rising_ordered r rs o.1)

each_zero : (rs : List ℕ) → Each (λ r. 0 ≤ r) rs
each_zero [] = tt
each_zero (r ∷ rs) = (omega arith, each_zero rs)

-- a rule at a time, and all rules
keeps_each : (l : Listing) (p : ℕ) (rs : List ℕ) (us : List Rule) → Each (RuleOk l) us
    → ((a b : ℕ) → paired us a b ≡ true → Child l p a → (0 < times a rs) ↔ (0 < times b rs)) → Each (Keeps p rs) us
keeps_each l p rs [] o f = tt
keeps_each l p rs (both g x y ∷ us) o f = (
  (λ e. f x y (or_left (eqb x x && eqb y y) (paired us x y) (rw (eq-eqb x x refl, eq-eqb y y refl))) (subst (λ (z : ℕ). Child l z x) e o.0.left)),
  keeps_each l p rs us o.1 (λ a b h c. f a b (or_right (eqb a x && eqb b y) (paired us a b) h) c),
)

each_keeps : (l : Listing) (p : ℕ) (rs : List ℕ) (us : List Rule) → Each (RuleOk l) us → Each (Keeps p rs) us
    → (a b : ℕ) → paired us a b ≡ true → Child l p a → (0 < times a rs) ↔ (0 < times b rs)
each_keeps l p rs [] o k a b e c = absurd (false≢true e)
each_keeps l p rs (both g x y ∷ us) o k a b e c = ⊎_elim
    (λ h. let q = and_is (eqb a x) (eqb b y) h in here (eqb-true a x q.0) (eqb-true b y q.1))
    (λ h. each_keeps l p rs us o.1 k.1 a b h c)
    (or_is (eqb a x && eqb b y) (paired us a b) e)
  where
    here : a ≡ x → b ≡ y → (0 < times a rs) ↔ (0 < times b rs)
    here ea eb =
        let eg : g ≡ p = sym o.0.left.parent ∙ ap (parent_of l) (sym ea) ∙ c.parent in
        subst (λ (z : ℕ). (0 < times a rs) ↔ (0 < times z rs)) (sym eb) (subst (λ (z : ℕ). (0 < times z rs) ↔ (0 < times y rs)) (sym ea) (k.0 eg))

pub chain_children : (l : Listing) (w : WellFormed l) (p : ℕ) (rs : List ℕ) → Chain l p 0 rs → Children l p rs
unfolding ruled
chain_children l w p rs c =
    let v = chain_level l (well l w) p rs c in
    record {
      nonempty = v.some;
      theirs = v.own;
      order = rising_ordered 0 rs v.order;
      counts = v.counts;
      single = v.one;
      rules = keeps_each l p rs l.rules w.rules v.rules;
    }

pub children_chain : (l : Listing) (w : WellFormed l) (p : ℕ) (rs : List ℕ) → Children l p rs → Chain l p 0 rs
unfolding ruled
children_chain l w p rs c = level_chain l (well l w) p rs (record {
  own = c.theirs;
  order = ordered_rising 0 rs (each_zero rs) c.order;
  some = c.nonempty;
  one = c.single;
  counts = c.counts;
  rules = each_keeps l p rs l.rules w.rules c.rules;
})
