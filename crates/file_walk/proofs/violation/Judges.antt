-- Whoever judges which texts spell a value finds the same first; and who computes the values judges. Assumes nothing.
use mathlib.Core.Path.{◌≡◌, sym, ◌∙◌, ap, ap₂}
use mathlib.Core.Logic.{◌↔◌}
use mathlib.Core.Bool.{Bool, true}
use mathlib.Core.List.{List, []}
use mathlib.Core.Option.{Option}
use Prim.Native.Nat.{ℕ}
use Rattle.list.specs.Listing.{Leaf, ccy, Listing}
use Rattle.xml.specs.Message.{Attrs, Inside}
use Rattle.file_walk.specs.Types.{Types, Judge, Decides}
use Rattle.file_walk.specs.First.{Found, First, first_violation}
use Rattle.file_walk.specs.mirror.Machine.{Verdict, verdict_of, judge_of, speller_of, Computes}
use Rattle.file_walk.proofs.violation.Answers.{iff_same, not_none, some_of}
use Rattle.file_walk.proofs.violation.Attrs.{leaf_mean}

-- a way to compute the value that is spelt says whether there is one
computes_right : (t : Types) (sp : Leaf → List ℕ → List ℕ → Option t.A) → Computes t sp → (k : Leaf) (w cs : List ℕ)
    → (verdict_of (speller_of t sp) k w cs ≡ true) ↔ ((v : t.A) × t.Spelt k w cs v)
computes_right t sp y k w cs = (
  (λ e. let v = some_of (sp k w cs) (not_none (sp k w cs) e) in (v.0, y.sound k w cs v.0 v.1)),
  (λ g. rw (y.some k w cs g.0 g.1).1),
)

pub computes_decides : (t : Types) (sp : Leaf → List ℕ → List ℕ → Option t.A) → Computes t sp → Decides t (judge_of (speller_of t sp))
computes_decides t sp y = record { attrs = leaf_mean t (verdict_of (speller_of t sp)) (computes_right t sp y ccy []); value = computes_right t sp y }

abbrev judge : (Leaf → Attrs → Bool) → Verdict → Judge
judge a v = record { attrs = a; value = v }

-- two judges say the same
judges_one : (t : Types) (i j : Judge) → Decides t i → Decides t j → i ≡ j
judges_one t i j x y = ap₂ judge attributes values
  where
    attributes : i.attrs ≡ j.attrs
    attributes = λ u k ats. iff_same (i.attrs k ats) (j.attrs k ats) (λ e. (y.attrs k ats).1 ((x.attrs k ats).0 e)) (λ e. (x.attrs k ats).1 ((y.attrs k ats).0 e)) u

    values : i.value ≡ j.value
    values = λ u k w cs. iff_same (i.value k w cs) (j.value k w cs) (λ e. (y.value k w cs).1 ((x.value k w cs).0 e)) (λ e. (x.value k w cs).1 ((y.value k w cs).0 e)) u

-- only one thing is found first
pub first_one : (t : Types) (l : Listing) (m : Inside) (f g : Found) → First t l m f → First t l m g → f ≡ g
first_one t l m f g x y = sym x.is ∙ ap (λ (j : Judge). first_violation j l m) (judges_one t x.judge y.judge x.decides y.decides) ∙ y.is
