-- Where the text of a leaf ends, and whether `]]>` stands in it. Assumes nothing.
use mathlib.Core.Path.{◌≡◌, refl, sym, ◌∙◌, ap, subst}
use mathlib.Core.Bool.{Bool, true, false, true≢false, false≢true, not}
use mathlib.Core.Logic.{◌≢◌}
use mathlib.Core.List.{List, [], ◌∷◌, ◌++◌}
use Prim.Native.Nat.{ℕ, ◌+◌, ◌≤◌}
use native.Mathlib.Omega.{arith}
use lib.ListN.{length, take, drop, length-append, take-append-drop}
use lib.Seq.{slice, drop_at}
use borrow.Author.Tests.{eq-eqb, ne_eqb}
use Rattle.text.specs.Lists.{span}
use Rattle.text.specs.Words.{starts}
use Rattle.text.proofs.Parts.{starts_is, starts_not}
use Rattle.text_characters.specs.Pieces.{less, bracket, greater}
use Rattle.value.specs.given.Giving.{Sized}
use Rattle.value_leaf.specs.Took.{Uncut}
use Rattle.value_leaf.specs.Leafed.{is_inside, found_of, Leafed, CutTold}
use Rattle.value_leaf.specs.declared.found.Found.{Found}

-- ---- `<`

pub inside_no : (x : ℕ) → x ≡ less → is_inside x ≡ false
unfolding is_inside
inside_no x e = ap not (eq-eqb x less e)

pub inside_yes : (x : ℕ) → x ≢ less → is_inside x ≡ true
unfolding is_inside
inside_yes x e = ap not (ne_eqb x less e)

-- ---- `]]>`

abbrev pub ends : List ℕ
ends = bracket ∷ bracket ∷ greater ∷ []

-- nowhere before i
pub record Passed (t : List ℕ) (i : ℕ) : Type 0 where
  pub later : (a b : List ℕ) → t ≡ a ++ (bracket ∷ bracket ∷ greater ∷ b) → i ≤ length a

pub passed_none : (t : List ℕ) → Passed t 0
passed_none t = record { later = λ a b e. omega arith }

pub passed_more : (t : List ℕ) (i : ℕ) → Passed t i → starts ends (drop i t) ≡ false → Passed t (i + 1)
passed_more t i p n = record { later = λ a b e. go a b e (p.later a b e) }
  where
    differ : (a b : List ℕ) → t ≡ a ++ (ends ++ b) → i ≢ length a
    differ a b e q = starts_not ends (drop i t) b n (ap (drop i) e ∙ drop_at a (ends ++ b) i (sym q))

    go : (a b : List ℕ) → t ≡ a ++ (ends ++ b) → i ≤ length a → i + 1 ≤ length a
    go a b e h = let d = differ a b e in omega arith

pub passed_end : (t : List ℕ) (i : ℕ) → Passed t i → length t ≤ i → CutTold t false
passed_end t i p h =
    record {
      no = λ z. record { nowhere = λ a b e. omega (arith, p.later a b e, ap length e, length-append a (bracket ∷ bracket ∷ greater ∷ b)) };
      yes = λ z. absurd (false≢true z);
    }

pub passed_met : (t : List ℕ) (i : ℕ) → Passed t i → starts ends (drop i t) ≡ true → CutTold t true
passed_met t i p e =
    record {
      no = λ z. absurd (true≢false z);
      yes = λ z u. u.nowhere (take i t) (drop 3 (drop i t)) (sym (take-append-drop i t) ∙ ap (λ (w : List ℕ). take i t ++ w) (starts_is ends (drop i t) e));
    }

-- ---- what is told

pub told : (kind k : ℕ) (s t : List ℕ) (at e n : ℕ) (b : Bool) (r : Found) → e ≡ at + span is_inside (drop at s) → t ≡ slice at e s → CutTold t b → b ≡ false
    → Sized kind k t n → r ≡ found_of e n → Leafed kind k s at r
told kind k s t at e n b r d q c f z i =
    subst (Leafed kind k s at) (sym i)
    (record { ends = d; bytes = n; size = refl; weighs = record { whole = λ u. subst (λ (w : List ℕ). Sized kind k w n) q z; cut = λ u. absurd (u (subst Uncut q (c.no f))) } })

pub told_cut : (kind k : ℕ) (s t : List ℕ) (at e : ℕ) (b : Bool) (r : Found) → e ≡ at + span is_inside (drop at s) → t ≡ slice at e s → CutTold t b → b ≡ true
    → r ≡ found_of e 0 → Leafed kind k s at r
told_cut kind k s t at e b r d q c f i =
    subst (Leafed kind k s at) (sym i)
    (record { ends = d; bytes = 0; size = refl; weighs = record { whole = λ u. absurd (c.yes f (subst Uncut (sym q) u)); cut = λ u. refl } })
