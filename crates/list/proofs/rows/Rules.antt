-- A table's rules: the columns of the two rows name each other. Assumes nothing.
use mathlib.Core.Path.{◌≡◌, refl, sym, ◌∙◌, ap, subst}
use mathlib.Core.Logic.{◌⊎◌, inl, inr}
use mathlib.Core.List.{List, [], ◌∷◌}
use Prim.Native.Nat.{ℕ, zero, suc, ◌+◌, ◌≤◌, ◌<◌}
use native.Mathlib.Omega.{arith}
use native.Mathlib.Decide.{ℕ_discrete, dec_lt}
use lib.Dec.{eqb}
use borrow.Author.Tests.{eqb-true, eq-eqb, ne_eqb}
use Rattle.text.specs.Lists.{Each}
use Rattle.list.specs.Listing.{Rule, both, Listing, row_at, size}
use Rattle.list.specs.WellFormed.{BothOk, RuleOk}
use Rattle.list.specs.tables.Table.{cell, rules_from, list_of}
use Rattle.list.specs.tables.Sound.{second_of, Sound}
use Rattle.list.proofs.sound.Tests.{by_cases}

-- the rules have `both g a b`
abbrev pub Among : ℕ → ℕ → ℕ → List Rule → Type 0
Among g a b [] = ⊥
Among g a b (both x y z ∷ qs) = ((x ≡ g) × (y ≡ a) × (z ≡ b)) ⊎ Among g a b qs

-- what holds of each rule holds of one among them
pub each_among : (P : Rule → Type 0) (g a b : ℕ) (qs : List Rule) → Each P qs → Among g a b qs → P (both g a b)
each_among P g a b [] e x'' = elim x'' [ ]
each_among P g a b (both x y z ∷ qs) e (inl h) =
    subst (λ k. P (both g a k)) h.2 (subst (λ k. P (both g k z)) h.1 (subst (λ k. P (both k y z)) h.0 e.0))
each_among P g a b (both x y z ∷ qs) e (inr h) = each_among P g a b qs e.1 h

-- ---- any table

module _ (t : List ℕ) where
  rules_here : (i k : ℕ) → cell t i 8 ≡ 0 → rules_from t i (suc k) ≡ rules_from t (suc i) k
  unfolding rules_from
  rules_here i k e = rw (eq-eqb (cell t i 8) 0 e) refl

  rules_on : (i k : ℕ) → (cell t i 8 ≡ 0 → ⊥) → rules_from t i (suc k) ≡ both (cell t i 0) (cell t i 8) i ∷ rules_from t (suc i) k
  unfolding rules_from
  rules_on i k e = rw (ne_eqb (cell t i 8) 0 e) refl

  -- the rule of a row that has a mate
  rule_of : (i k r : ℕ) → i ≤ r → r < i + k → 0 < cell t r 8 → Among (cell t r 0) (cell t r 8) r (rules_from t i k)
  rule_of i zero r a b h = absurd (omega arith)
  rule_of i (suc k) r a b h = elim (ℕ_discrete i r) [
    | yes e ↦
        subst (Among (cell t r 0) (cell t r 8) r)
        (sym (rules_on i k (λ z. omega (arith, ap (λ x. cell t x 8) e))))
        (inl (ap (λ x. cell t x 0) e, ap (λ x. cell t x 8) e, e))
    | no n ↦ elim (ℕ_discrete (cell t i 8) 0) [
      | yes z ↦ subst (Among (cell t r 0) (cell t r 8) r) (sym (rules_here i k z)) (rule_of (suc i) k r (omega arith) (omega arith) h)
      | no z ↦ subst (Among (cell t r 0) (cell t r 8) r) (sym (rules_on i k z)) (inr (rule_of (suc i) k r (omega arith) (omega arith) h))
    ]
  ]

  -- and a rule's second row has the first for its mate
  abbrev Mates : ℕ → ℕ → ℕ → Type 0
  Mates g a b = (cell t b 0 ≡ g) × (cell t b 8 ≡ a) × (0 < a) × (0 < b)

  abbrev OfRule : Rule → Type 0
  OfRule (both g a b) = Mates g a b

  of_rules : (i k : ℕ) → 0 < i → Each OfRule (rules_from t i k)
  unfolding rules_from
  of_rules i zero h = tt
  of_rules i (suc k) h = elim (ℕ_discrete (cell t i 8) 0) [
    | yes z ↦ subst (Each OfRule) (sym (rules_here i k z)) (of_rules (suc i) k (omega arith))
    | no z ↦ subst (Each OfRule) (sym (rules_on i k z)) ((refl, refl, omega arith, h), of_rules (suc i) k (omega arith))
  ]

module _ (t pool : List ℕ) where
  pub mate_rule : (r : ℕ) → 0 < r → r ≤ cell t 0 0 → 0 < cell t r 8 → Among (cell t r 0) (cell t r 8) r (list_of t pool).rules
  unfolding list_of
  mate_rule r a b h = rule_of t 1 (cell t 0 0) r a (omega arith) h

  pub rule_mate : (g a b : ℕ) → Among g a b (list_of t pool).rules → (cell t b 0 ≡ g) × (cell t b 8 ≡ a) × (0 < a) × (0 < b)
  unfolding list_of
  rule_mate g a b m = each_among (OfRule t) g a b (list_of t pool).rules (of_rules t 1 (cell t 0 0) (omega arith)) m

-- ---- sound tables

second_some : (qs : List Rule) (a b : ℕ) → second_of qs a ≡ b → 0 < b → (g : ℕ) × Among g a b qs
unfolding second_of
second_some [] a b e h = absurd (omega arith)
second_some (both x y z ∷ qs) a b e h = by_cases (eqb y a)
    (λ i. (x, inl (refl, eqb-true y a i, sym (rw i refl) ∙ e)))
    (λ n. let w = second_some qs a b (sym (rw n refl) ∙ e) h in (w.0, inr w.1))

abbrev Later : Rule → Type 0
Later (both g a b) = 0 < b

second_any : (qs : List Rule) (g a b : ℕ) → Each Later qs → Among g a b qs → 0 < second_of qs a
unfolding second_of
second_any [] g a b p x'' = elim x'' [ ]
second_any (both x y z ∷ qs) g a b p (inl m) = rw (eq-eqb y a m.1) p.0
second_any (both x y z ∷ qs) g a b p (inr m) = by_cases (eqb y a) (λ i. rw i p.0) (λ n. rw n (second_any qs g a b p.1 m))

module _ (t pool : List ℕ) (s : Sound t pool) where
  abbrev l : Listing
  l = list_of t pool

  -- what well-formedness says of a rule
  pub rule_ok : (g a b : ℕ) → Among g a b l.rules → BothOk l g a b
  rule_ok g a b m = each_among (RuleOk l) g a b l.rules s.well.rules m

  later : (qs : List Rule) → Each (RuleOk l) qs → Each Later qs
  later [] e = tt
  later (both g a b ∷ qs) e = (e.0.right.first, later qs e.1)

  -- two rules with one first row have one second row: both are its neighbour
  one_second : (g h a b c : ℕ) → BothOk l g a b → BothOk l h a c → b < c → ⊥
  one_second g h a b c u v k =
      let of : (row_at l b).parent ≡ h = u.right.parent ∙ sym u.left.parent ∙ v.left.parent in
      v.next b (record { first = u.right.first; last = u.right.last; parent = of }) u.order k

  pub rule_pair : (g a b : ℕ) → Among g a b l.rules → cell t a 13 ≡ b
  rule_pair g a b m =
      let u = rule_ok g a b m in
      let w = second_some l.rules a (second_of l.rules a) refl (second_any l.rules g a b (later l.rules s.well.rules) m) in
      let v = rule_ok w.0 a (second_of l.rules a) w.1 in
      (s.derived a u.left.last).pair ∙ elim (dec_lt (second_of l.rules a) b) [
        | yes k ↦ absurd (one_second w.0 g a (second_of l.rules a) b v u k)
        | no k ↦ elim (dec_lt b (second_of l.rules a)) [
          | yes j ↦ absurd (one_second g w.0 a b (second_of l.rules a) u v j)
          | no j ↦ omega arith
        ]
      ]

  pub pair_rule : (a : ℕ) → a ≤ size l → 0 < cell t a 13 → (g : ℕ) × Among g a (cell t a 13) l.rules
  pair_rule a b h = second_some l.rules a (cell t a 13) (sym (s.derived a b).pair) h
