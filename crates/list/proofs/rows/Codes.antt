-- What code asks of a number for a count or a kind is what the definitions ask of the count or kind. Assumes nothing.
use mathlib.Core.Path.{◌≡◌, refl, sym, ◌∙◌, ap}
use mathlib.Core.Bool.{Bool, true, false, not, beq, false≢true}
use mathlib.Core.List.{List, []}
use Prim.Native.Nat.{ℕ, ◌≤◌, ◌<◌}
use native.Mathlib.Omega.{arith}
use native.Mathlib.Decide.{dec_lt}
use lib.Dec.{eqb, ltb}
use lib.ListN.{get_or-eq_default}
use borrow.Author.Tests.{le-ltb, ne_eqb, le-leb, lt-leb}
use Rattle.text.specs.Bytes.{in_range}
use Rattle.text.proofs.Classes.{every, passes, in_range_is, not_so}
use Rattle.list.specs.Listing.{group, alternative, is_group, is_choice, at_most_once}
use Rattle.list.specs.tables.Table.{counts, kinds, count_of, kind_of}
use Rattle.list.specs.tables.Numbers.{is_group_in}

beq_is : (a b : Bool) → beq a b ≡ true → a ≡ b
beq_is true true e = refl
beq_is true false e = absurd (false≢true e)
beq_is false true e = absurd (false≢true e)
beq_is false false e = refl

-- two tests agree below n, computed; and above it, where the number is none of those that have a name
agree : (f g : ℕ → Bool) (n : ℕ) → every (λ c. beq (f c) (g c)) 0 n ≡ true → ((c : ℕ) → n ≤ c → f c ≡ g c) → (c : ℕ) → f c ≡ g c
agree f g n e h c = elim (dec_lt c n) [
  | yes k ↦ beq_is (f c) (g c) (passes (λ c. beq (f c) (g c)) 0 n e c (omega arith) (omega arith))
  | no k ↦ h c (omega arith)
]

past_count : (c : ℕ) → 4 ≤ c → count_of c ≡ alternative
past_count c h = get_or-eq_default counts alternative h

pub single_is : (c : ℕ) → at_most_once (count_of c) ≡ ltb c 2
single_is c =
    agree (λ c. at_most_once (count_of c)) (λ c. ltb c 2) 4 refl
    (λ c h. ap at_most_once (past_count c h) ∙ sym (le-ltb c 2 (omega arith))) c

module _ (k : ℕ) (ws : List (List ℕ)) where
  past_kind : (c : ℕ) → 12 ≤ c → kind_of c k ws ≡ group
  past_kind c h = get_or-eq_default (kinds k ws) group h

  pub choice_is : (c : ℕ) → is_choice (kind_of c k ws) ≡ eqb c 1
  choice_is c =
      agree (λ c. is_choice (kind_of c k ws)) (λ c. eqb c 1) 12 refl
      (λ c h. ap is_choice (past_kind c h) ∙ sym (ne_eqb c 1 (λ z. omega arith))) c

  pub group_is : (c : ℕ) → is_group (kind_of c k ws) ≡ not (in_range 2 11 c)
  group_is c =
      agree (λ c. is_group (kind_of c k ws)) (λ c. not (in_range 2 11 c)) 12 refl
      (λ c h. ap is_group (past_kind c h) ∙ sym (ap not (not_so (in_range 2 11 c) (λ e. omega (arith, in_range_is 2 11 c e))))) c

-- by the number, between those of leaves or not
module _ (c : ℕ) where
  pub numbered_is : is_group_in c ≡ not (in_range 2 11 c)
  unfolding is_group_in
  numbered_is = group_is 0 [] c

  pub leaf_kind : 2 ≤ c → c ≤ 11 → false ≡ is_group_in c
  leaf_kind a b = rw (numbered_is, le-leb 2 c a, le-leb c 11 b)

  pub low_kind : c < 2 → true ≡ is_group_in c
  low_kind a = rw (numbered_is, lt-leb 2 c a)

  pub high_kind : 2 ≤ c → 11 < c → true ≡ is_group_in c
  high_kind a b = rw (numbered_is, le-leb 2 c a, lt-leb c 11 b)
