-- In sound tables the numbers and tests over cells are those over the list. Assumes nothing.
use mathlib.Core.Path.{◌≡◌, refl, sym, ◌∙◌, ap, ap₂, subst}
use mathlib.Core.Logic.{◌⊎◌, inl, inr}
use mathlib.Core.Bool.{Bool, true, false, cond, ◌&&◌, ◌||◌, not, false≢true}
use mathlib.Core.List.{List, [], ◌∷◌}
use Prim.Native.Nat.{ℕ, ◌≤◌, ◌<◌}
use native.Mathlib.Omega.{arith}
use lib.Dec.{eqb, ltb}
use borrow.Author.Tests.{eq-eqb}
use Rattle.answer.specs.Table as table
use Rattle.list.specs.Listing.{Kind, group, choice, leaf, Listing, size, row_at, Child, is_group, is_choice, at_most_once}
use Rattle.list.specs.tables.Table.{cell, words_in, list_of}
use Rattle.list.specs.tables.Sound.{Sound}
use Rattle.list.proofs.rows.Along.{due_after_lem}
use Rattle.list.proofs.rows.Codes.{single_is, choice_is, group_is}
use Rattle.list.proofs.rows.Rows.{size_is, kind_is, count_is}
use Rattle.xml.specs.Message.{Attrs}
use Rattle.file_walk.specs.declared.level.Level.{Level}
use Rattle.file_walk.specs.First.{refuse, first_of, attrs_ok}
use Rattle.file_walk.specs.First.{kind_of as kind_in}
use Rattle.file_walk.specs.mirror.Machine.{Speller, judge_of, misses, fresh, advance, again, open_test, group_test}
use Rattle.list.specs.tables.Numbers.{is_group_in}
use Rattle.file_walk.specs.mirror.Tables.{fresh_in, advance_in, passed_in, again_in, opening_in, broken_in, group_end_in}

module _ (t pool : List ℕ) (s : Sound t pool) where
  abbrev l : Listing
  l = list_of t pool

  -- an open element as the tables know it: a row, and a last child that is one of its own
  pub record Placed (lv : Level) : Type 0 where
    pub low : 0 < lv.row
    pub high : lv.row ≤ size l
    pub last : (lv.last ≡ 0) ⊎ Child l lv.row lv.last

  row_within : (r : ℕ) → r ≤ size l → r ≤ cell t 0 0
  row_within r h = subst (λ n. r ≤ n) (size_is t pool) h

  last_within : (lv : Level) → Placed lv → lv.last ≤ size l
  last_within lv p = elim p.last [ inl e ↦ omega arith | inr c ↦ c.last ]

  pub fresh_in_lem : (r o : ℕ) → r ≤ size l → fresh_in t r o ≡ fresh l r o
  unfolding fresh
  fresh_in_lem r o h = ap (λ d. record { row = r; place = o; last = 0; due = d; odd = false }) (due_after_lem t pool s r 0 h (inl refl))

  pub advance_in_lem : (lv : Level) (r : ℕ) → Placed lv → Child l lv.row r → advance_in t lv r ≡ advance l lv r
  unfolding advance
  advance_in_lem lv r p c =
      ap₂ (λ d b. record { row = lv.row; place = lv.place; last = r; due = d; odd = b })
      (ap (λ d. cond (eqb r lv.due) d lv.due) (due_after_lem t pool s lv.row r p.high (inr c)))
      (ap₂ (λ a b. lv.odd || (not (eqb r lv.last) && (misses a lv.last || misses b r)))
      (s.derived r c.last).mate (s.derived lv.last (last_within lv p)).pair)

  pub group_in : (r : ℕ) → 0 < r → r ≤ size l → is_group_in (cell t r 2) ≡ is_group (row_at l r).kind
  unfolding is_group_in
  group_in r a b = group_is 0 [] (cell t r 2) ∙ sym (ap is_group (kind_is t pool r a (row_within r b)) ∙ group_is (cell t r 3) (words_in t pool r) (cell t r 2))

  choice_in : (r : ℕ) → 0 < r → r ≤ size l → eqb (cell t r 2) 1 ≡ is_choice (row_at l r).kind
  choice_in r a b = sym (ap is_choice (kind_is t pool r a (row_within r b)) ∙ choice_is (cell t r 3) (words_in t pool r) (cell t r 2))

  single_in : (r : ℕ) → 0 < r → r ≤ size l → ltb (cell t r 1) 2 ≡ at_most_once (row_at l r).count
  single_in r a b = sym (ap at_most_once (count_is t pool r a (row_within r b)) ∙ single_is (cell t r 1))

  again_kind : (k : Kind) (b : Bool) (last r : ℕ) → is_group k ≡ true → b ≡ is_choice k → cond b (not (eqb last 0)) (at_most_once (row_at l r).count && eqb last r) ≡ again l k last r
  again_kind group b last r g e = rw e
  again_kind choice b last r g e = rw e
  again_kind (leaf f) b last r g e = absurd (false≢true g)

  pub passed_in_lem : (lv : Level) (r : ℕ) → Placed lv → passed_in t lv r ≡ (not (is_choice (kind_in l lv.row)) && ltb r lv.last)
  unfolding passed_in
  passed_in_lem lv r p = ap (λ b. not b && ltb r lv.last) (choice_in lv.row p.low p.high)

  pub again_in_lem : (lv : Level) (r : ℕ) → Placed lv → Child l lv.row r → again_in t lv r ≡ again l (kind_in l lv.row) lv.last r
  unfolding again_in
  again_in_lem lv r p c =
      ap₂ (λ a b. cond a (not (eqb lv.last 0)) (b && eqb lv.last r)) (choice_in lv.row p.low p.high) (single_in r c.first c.last)
      ∙ again_kind (kind_in l lv.row) (is_choice (kind_in l lv.row)) lv.last r (s.well.parents lv.row r c p.low) refl

  module _ (T : Speller) where
    pub opening_in_lem : (lv : Level) (r : ℕ) (own : Bool) (ats : Attrs) (o : ℕ) → Placed lv → (r ≡ 0) ⊎ Child l lv.row r → (0 < r → own ≡ attrs_ok (judge_of T) (kind_in l r) ats)
        → opening_in t lv r own o ≡ open_test T l lv r ats o
    unfolding opening_in open_test
    opening_in_lem lv r own ats o p (inl e) h = rw (eq-eqb r 0 e)
    opening_in_lem lv r own ats o p (inr c) h = rw (passed_in_lem lv r p, again_in_lem lv r p c, h c.first)

    pub group_end_in_lem : (lv : Level) → Placed lv → group_end_in t lv ≡ group_test T l lv
    unfolding group_end_in broken_in
    group_end_in_lem lv p =
        ap (λ x. first_of (
        refuse (eqb lv.last 0) (table.empty lv.row lv.place) ∷
        refuse (ltb 0 lv.due) (table.absent lv.due lv.place) ∷
        refuse (lv.odd || not (eqb x 0)) (table.rule_broken lv.row lv.place) ∷ []))
        (s.derived lv.last (last_within lv p)).pair
