-- Each turn of the picker's loop, by the tests that led there; what it finds lies within the run, and its value ends there. Assumes nothing.
use mathlib.Core.Path.{◌≡◌, refl, sym, ◌∙◌, ap, ap₂}
use mathlib.Core.Logic.{◌≢◌}
use mathlib.Core.Bool.{Bool, true, false, cond, not}
use mathlib.Core.List.{List}
use Prim.Native.Nat.{ℕ, ◌+◌, ◌-◌, ◌≤◌, ◌<◌}
use native.Mathlib.Omega.{arith}
use lib.Dec.{leb, eqb}
use lib.ListN.{length, get_or, drop, length-drop}
use borrow.Author.Tests.{leb-true, leb-false, eqb-true, eqb-false, not-true, not-false}
use Rattle.answer.specs.declared.Answer.{Answer}
use Rattle.answer.specs.Table.{picked, no_such_leaf}
use Rattle.text.specs.Bytes.{in_range}
use Rattle.text.proofs.Classes.{and_is, in_range_is}
use Rattle.image.specs.mirror.Run.{stop, next, Comes, halts, moves, head_of, hunt, Finds, groups, leaves, Answered, missing, found}
use Rattle.list.specs.tables.Table.{cell}
use Rattle.list.specs.tables.Numbers.{is_group_in}
use Rattle.list.proofs.rows.Codes.{numbered_is}
use Rattle.value.specs.mirror.Ends.{width, begins, value_end}
use Rattle.value.proofs.stored.Numbered.{by_kind}
use Rattle.value.proofs.stored.Meaning.{end_is}
use Rattle.image.specs.mirror.Step.{is_leaf}
use Rattle.image.specs.mirror.Ends.{item_end}
use Rattle.image.proofs.loops.Picker.{hunt_out, hunt_over, hunt_bad, hunt_here, hunt_past, hunt_other, chooses_one}

module _ (t : List ℕ) (fin : ℕ → ℕ → ℕ) (s : List ℕ) (from r n : ℕ) where
  -- what is found from here is found from the start
  pub record Sought (left i : ℕ) : Type 0 where
    pub on : (p : ℕ) → Comes (hunt t fin s r) p left i → Comes (hunt t fin s r) p n from

  pub seeks : Sought n from
  seeks = record { on = λ p g. g }

  module _ (left i : ℕ) (h : Sought left i) where
    stops : (p : ℕ) → hunt t fin s r left i ≡ stop p → Comes (hunt t fin s r) p n from
    stops p e = h.on p (halts e)

    pub seek_over : length s ≤ i → Comes (hunt t fin s r) 0 n from
    seek_over g = stops 0 (hunt_over t fin s r left i g)

    module _ (x : ℕ) (g : i < length s) (ex : x ≡ get_or s i 0) where
      pub seek_end : x ≡ 0 → Comes (hunt t fin s r) 0 n from
      seek_end z = stops 0 (hunt_out t fin s r left i (sym ex ∙ z))

      module _ (j : ℕ) (z : x ≢ 0) (ej : j ≡ fin x (i + 1)) where
        pub seek_bad : j ≡ 0 → Comes (hunt t fin s r) 0 n from
        seek_bad y = stops 0 (hunt_bad t fin s r left i x j g ex z ej y)

        pub seek_here : j ≢ 0 → x ≡ r → left ≡ 0 → Comes (hunt t fin s r) (i + 1) n from
        seek_here y e f = stops (i + 1) (hunt_here t fin s r left i x j g ex z ej y e f)

        pub seek_past : j ≢ 0 → x ≡ r → left ≢ 0 → Sought (left - 1) j
        seek_past y e f = record { on = λ p k. h.on p (moves (left - 1) j (hunt_past t fin s r left i x j g ex z ej y e f) k) }

        pub seek_on : j ≢ 0 → x ≢ r → Sought left j
        seek_on y e = record { on = λ p k. h.on p (moves left j (hunt_other t fin s r left i x j g ex z ej y e) k) }

-- a turn that stops, stops within the run
module _ (t : List ℕ) (fin : ℕ → ℕ → ℕ) (s : List ℕ) (r : ℕ) where
  halt_within : (left i p : ℕ) → hunt t fin s r left i ≡ stop p → p ≤ length s
  unfolding hunt
  halt_within left i p e = go (leb (length s) i) refl (eqb (get_or s i 0) 0) (eqb (fin (get_or s i 0) (i + 1)) 0) (eqb (get_or s i 0) r) (eqb left 0) e
    where
      go : (a : Bool) → leb (length s) i ≡ a → (b c d f : Bool)
          → cond a (stop 0) (cond b (stop 0) (cond c (stop 0) (cond d (cond f (stop (i + 1)) (next (left - 1) (fin (get_or s i 0) (i + 1)))) (next left (fin (get_or s i 0) (i + 1)))))) ≡ stop p
          → p ≤ length s
      go true h b c d f q = let z : ◌≡◌ {A = ℕ} 0 p = cc in omega arith
      go false h true c d f q = let z : ◌≡◌ {A = ℕ} 0 p = cc in omega arith
      go false h false true d f q = let z : ◌≡◌ {A = ℕ} 0 p = cc in omega arith
      go false h false false true true q = let z : i + 1 ≡ p = cc in omega (arith, leb-false (length s) i h)
      go false h false false true false q = let z : ◌≡◌ {A = ℕ} 0 1 = cc in absurd (omega arith)
      go false h false false false f q = let z : ◌≡◌ {A = ℕ} 0 1 = cc in absurd (omega arith)

  come_within : {p n i : ℕ} → Comes (hunt t fin s r) p n i → p ≤ length s
  come_within {p} {n} {i} (halts e) = halt_within n i p e
  come_within (moves x j e g) = come_within g

  pub find_within : (from n p : ℕ) → Finds t fin s from r n p → p ≤ length s
  find_within from n p (groups e f) = omega arith
  find_within from n p (leaves e g) = come_within g

  -- and where it finds a place, a value of the row stands there
  halt_ends : (left i p : ℕ) → 0 < p → hunt t fin s r left i ≡ stop p → 0 < fin r p
  unfolding hunt
  halt_ends left i p h e = go (leb (length s) i) (eqb (get_or s i 0) 0) (eqb (fin (get_or s i 0) (i + 1)) 0) refl (eqb (get_or s i 0) r) refl (eqb left 0) e
    where
      go : (a b c : Bool) → eqb (fin (get_or s i 0) (i + 1)) 0 ≡ c → (d : Bool) → eqb (get_or s i 0) r ≡ d → (f : Bool)
          → cond a (stop 0) (cond b (stop 0) (cond c (stop 0) (cond d (cond f (stop (i + 1)) (next (left - 1) (fin (get_or s i 0) (i + 1)))) (next left (fin (get_or s i 0) (i + 1)))))) ≡ stop p
          → 0 < fin r p
      go true b c x d y f q = let z : ◌≡◌ {A = ℕ} 0 p = cc in absurd (omega arith)
      go false true c x d y f q = let z : ◌≡◌ {A = ℕ} 0 p = cc in absurd (omega arith)
      go false false true x d y f q = let z : ◌≡◌ {A = ℕ} 0 p = cc in absurd (omega arith)
      go false false false x true y true q =
          let z : i + 1 ≡ p = cc in
          let w : fin (get_or s i 0) (i + 1) ≡ fin r p = ap₂ fin (eqb-true (get_or s i 0) r y) z in
          omega (arith, w, eqb-false (fin (get_or s i 0) (i + 1)) 0 x)
      go false false false x true y false q = let z : ◌≡◌ {A = ℕ} 0 1 = cc in absurd (omega arith)
      go false false false x false y f q = let z : ◌≡◌ {A = ℕ} 0 1 = cc in absurd (omega arith)

  come_ends : {p n i : ℕ} → 0 < p → Comes (hunt t fin s r) p n i → 0 < fin r p
  come_ends {p} {n} {i} h (halts e) = halt_ends n i p h e
  come_ends h (moves x j e g) = come_ends h g

  find_ends : (from n p : ℕ) → 0 < p → Finds t fin s from r n p → (is_leaf t r ≡ true) × (0 < fin r p)
  find_ends from n p h (groups e f) = absurd (omega arith)
  find_ends from n p h (leaves e g) = (e, come_ends h g)

  -- the one answer that fits has the place of the value's own bytes, or it is a refusal
  pub answer_none : (from n : ℕ) → Finds t fin s from r n 0 → (a : Answer) → Answered t fin s from r n a → a.code ≡ 18
  answer_none from n f a h = ap (λ (x : Answer). x.code) (chooses_one t fin s from r n a no_such_leaf h.part _ h.chooses (missing f refl refl)).0

  pub answer_place : (from n p : ℕ) → 0 < p → Finds t fin s from r n p → (a : Answer) → Answered t fin s from r n a → a.place ≡ p + head_of t r
  answer_place from n p z f a h = ap (λ (x : Answer). x.place) (chooses_one t fin s from r n a (picked r (p + head_of t r)) h.part _ h.chooses (found p z f refl refl)).0

pub head_small : (t : List ℕ) (r : ℕ) → head_of t r ≤ 2
unfolding head_of
head_small t r = go (leb (cell t r 2) 5)
  where
    go : (b : Bool) → cond b 2 0 ≤ 2
    go true = omega arith
    go false = omega arith

head_width : (u : List ℕ) (c : ℕ) → 2 ≤ c → c ≤ 11 → cond (leb c 5) 2 0 ≤ width c u
unfolding width
head_width u =
    by_kind (λ c. 2 ≤ c → c ≤ 11 → cond (leb c 5) 2 0 ≤ width c u)
    (λ a b. absurd (omega arith)) (λ a b. absurd (omega arith)) (λ a b. omega arith) (λ a b. omega arith) (λ a b. omega arith) (λ a b. omega arith) (λ a b. omega arith) (λ a b. omega arith) (λ a b. omega arith) (λ a b. omega arith) (λ a b. omega arith) (λ a b. omega arith)
    (λ c a b. absurd (omega arith))

leaf_code : (c : ℕ) → not (is_group_in c) ≡ true → (2 ≤ c) × (c ≤ 11)
leaf_code c e = in_range_is 2 11 c (not-false (in_range 2 11 c) (sym (numbered_is c) ∙ not-true (is_group_in c) e))

-- the value that is found, after the bytes of its length, lies within the run
pub found_end : (t s : List ℕ) (r from n p : ℕ) → 0 < p → Finds t (item_end t s) s from r n p → (p + head_of t r ≤ item_end t s r p) × (item_end t s r p ≤ length s)
unfolding item_end is_leaf head_of begins
found_end t s r from n p h f =
    let d = find_ends t (item_end t s) s r from n p h f in
    let c = leaf_code (cell t r 2) d.0 in
    let e : item_end t s r p ≡ value_end (cell t r 2) (cell t r 3) (cell t r 15) s p = rw d.0 in
    let w = end_is (cell t r 2) (cell t r 3) (cell t r 15) s p (omega (arith, e, d.1)) in
    let l = leb-true (width (cell t r 2) (drop p s)) (length (drop p s)) (and_is (leb (width (cell t r 2) (drop p s)) (length (drop p s))) _ w.0).0 in (
      omega (arith, e, w.1, head_width (drop p s) (cell t r 2) c.0 c.1),
      omega (arith, e, w.1, l, length-drop p s, find_within t (item_end t s) s r from n p f),
    )
