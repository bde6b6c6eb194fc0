-- The table of classes: what a byte above a level is. Assumes nothing.
use mathlib.Core.Path.{◌≡◌, refl, sym, ◌∙◌, ap}
use mathlib.Core.Bool.{Bool, true, false, cond, not, ◌&&◌, ◌||◌, true≢false}
use mathlib.Core.Logic.{inl, inr}
use mathlib.Core.List.{List}
use Prim.Native.Nat.{ℕ, ◌≤◌, ◌<◌}
use native.Mathlib.Omega.{arith}
use lib.Dec.{ltb, eqb}
use native.Mathlib.Decide.{dec_lt}
use lib.ListN.{length, get_or, get_or-eq_default}
use borrow.Author.Tests.{ltb-true, eqb-true}
use Rattle.text.specs.Bytes.{is_blank, is_name_part}
use Rattle.xml.specs.mirror.Auto.{Read, bad, all, more, lead}
use Rattle.xml.proofs.Jump.{Easy}
use Rattle.text.proofs.Classes.{Class, only, from, ◌or◌, Within, Named, is_in, and_is, not_so, every, passes, blank, name_part}
use Rattle.xml_scan.specs.mirror.Classes.{is_plain, class_of, above, Classed}

-- ---- names

pub above_name : (x : ℕ) → above 1 x ≡ is_name_part x
unfolding class_of
above_name x = go (is_name_part x) (is_plain x || is_blank x)
  where
    go : (u v : Bool) → ltb 1 (cond u 2 (cond v 1 0)) ≡ u
    go true v = refl
    go false true = refl
    go false false = refl

-- ---- bytes of a class are ASCII

abbrev below : ℕ → Class → Bool
below n (only a) = ltb a n
below n (from a b) = ltb b n
below n (p or q) = below n p && below n q

is_below : (n : ℕ) (p : Class) (x : ℕ) → below n p ≡ true → Within p x → x < n
is_below n (only a) x e h = omega (arith, ltb-true a n e)
is_below n (from a b) x e h = omega (arith, ltb-true b n e)
is_below n (p or q) x e (inl h) = is_below n p x (and_is (below n p) (below n q) e).0 h
is_below n (p or q) x e (inr h) = is_below n q x (and_is (below n p) (below n q) e).1 h

far : {f : ℕ → Bool} {p : Class} → Named f p → below 128 p ≡ true → (x : ℕ) → 128 ≤ x → f x ≡ false
far {f} {p} d e x h = not_so (f x) (λ t. let k : x < 128 = is_below 128 p x e (is_in d x t) in omega arith)

plain : Named is_plain (from 32 37 or from 39 59 or only 61 or from 63 92 or from 94 127)
unfolding is_plain
plain = record { is = λ x. refl }

class_far : (x : ℕ) → 128 ≤ x → class_of x ≡ 0
unfolding class_of
class_far x h = rw (far name_part refl x h, far plain refl x h, far blank refl x h) refl

-- ---- the table, by one computed test

pub classed : (t : List ℕ) → length t ≡ 256 → every (λ (x : ℕ). eqb (get_or t x 0) (class_of x)) 0 256 ≡ true → Classed t
classed t l e = record { is = λ x. go x (dec_lt x 256) }
  where
    go : (x : ℕ) → Dec (x < 256) → get_or t x 0 ≡ class_of x
    go x (yes h) = eqb-true (get_or t x 0) (class_of x) (passes (λ (x : ℕ). eqb (get_or t x 0) (class_of x)) 0 256 e x (omega arith) (omega arith))
    go x (no h) = get_or-eq_default t 0 (omega arith) ∙ sym (class_far x (omega arith))

-- ---- text

abbrev is_all : Read → Bool
is_all bad = false
is_all all = true
is_all (more p) = false

all_is : (r : Read) → is_all r ≡ true → r ≡ all
all_is bad e = absurd (true≢false (sym e))
all_is all e = refl
all_is (more p) e = absurd (true≢false (sym e))

abbrev easy_test : ℕ → Bool
easy_test x = not (above 0 x) || (is_all (lead x) && (not (eqb x 60) && (not (eqb x 62) && not (eqb x 93))))

tested : every easy_test 0 128 ≡ true
unfolding class_of is_name_part is_plain is_blank lead
tested = refl

above_near : (x : ℕ) → above 0 x ≡ true → x < 128
above_near x e = go (dec_lt x 128)
  where
    go : Dec (x < 128) → x < 128
    go (yes h) = h
    go (no h) = absurd (true≢false (sym e ∙ ap (λ (k : ℕ). ltb 0 k) (class_far x (omega arith))))

-- a byte of text that needs no thought
pub above_easy : (x : ℕ) → above 0 x ≡ true → Easy x
above_easy x e =
    let k : x < 128 = above_near x e in
    let t : easy_test x ≡ true = passes easy_test 0 128 tested x (omega arith) (omega arith) in
    let w = and_is (is_all (lead x)) (not (eqb x 60) && (not (eqb x 62) && not (eqb x 93))) (rw e at t) in
    let v = and_is (not (eqb x 60)) (not (eqb x 62) && not (eqb x 93)) w.1 in
    let u = and_is (not (eqb x 62)) (not (eqb x 93)) v.1 in
    record { reads = all_is (lead x) w.0; less = negated (eqb x 60) v.0; more = negated (eqb x 62) u.0; bracket = negated (eqb x 93) u.1 }
  where
    negated : (b : Bool) → not b ≡ true → b ≡ false
    negated true f = absurd (true≢false (sym f))
    negated false f = refl
