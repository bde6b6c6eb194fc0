-- The tests of an opening tag, one after the other, whatever the kind of the parent's row. Assumes nothing.
use Rattle.std.specs.Prelude.{Ok}
use mathlib.Core.Path.{◌≡◌, refl, ◌∙◌, ap}
use mathlib.Core.Bool.{Bool, false, ◌&&◌, not}
use mathlib.Core.List.{List, [], ◌∷◌}
use Prim.Native.Nat.{ℕ}
use lib.Dec.{eqb}
use Rattle.answer.specs.Table as table
use Rattle.list.specs.Words.{has}
use Rattle.list.specs.Listing.{Kind, group, choice, leaf, Listing, row_at, is_choice, at_most_once}
use Rattle.xml.specs.Message.{Attrs}
use Rattle.file_walk.specs.Types.{Judge}
use Rattle.file_walk.specs.First.{Found, refuse, or_else, first_of, is_empty, passed, attrs_ok, kind_of, among_siblings, opening}
use Rattle.file_walk.proofs.violation.Answers.{or_assoc}

module _ (l : Listing) where
  -- "over its count, or second child in a choice"
  abbrev pub over_count : Kind → List ℕ → ℕ → Bool
  over_count group seen r = at_most_once (row_at l r).count && has r seen
  over_count choice seen r = not (is_empty seen)
  over_count (leaf k) seen r = false

  siblings : (k : Kind) (seen : List ℕ) (r o : ℕ) (f : Found)
      → or_else (among_siblings l k seen r o) f ≡ or_else (refuse (not (is_choice k) && passed r seen) (table.out_of_order r o)) (or_else (refuse (over_count k seen r) (table.too_many r o)) f)
  siblings group seen r o f =
      let a = refuse (passed r seen) (table.out_of_order r o) in
      let b = refuse (at_most_once (row_at l r).count && has r seen) (table.too_many r o) in
      or_assoc a (or_else b (Ok tt)) f ∙ ap (or_else a) (or_assoc b (Ok tt) f)
  siblings choice seen r o f = refl
  siblings (leaf k) seen r o f = refl

module _ (j : Judge) (l : Listing) where
  -- four tests: 5, 6, 7, 9
  abbrev pub open_tests : Kind → Kind → ℕ → List ℕ → ℕ → Attrs → ℕ → Found
  open_tests kp kr p seen r ats o = first_of (
      refuse (eqb r 0) (table.not_a_child p o) ∷
      refuse (not (is_choice kp) && passed r seen) (table.out_of_order r o) ∷
      refuse (over_count l kp seen r) (table.too_many r o) ∷
      refuse (not (attrs_ok j kr ats)) (table.wrong_attributes r o) ∷ [])

  pub opening_is : (p : ℕ) (seen : List ℕ) (r : ℕ) (ats : Attrs) (o : ℕ) → opening j l p seen r ats o ≡ open_tests (kind_of l p) (kind_of l r) p seen r ats o
  opening_is p seen r ats o = ap (or_else (refuse (eqb r 0) (table.not_a_child p o))) (siblings l (kind_of l p) seen r o (or_else (refuse (not (attrs_ok j (kind_of l r) ats)) (table.wrong_attributes r o)) (Ok tt)))
