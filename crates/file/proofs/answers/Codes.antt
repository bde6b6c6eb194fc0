-- The codes of violations are 4 to 13, and the row of code 4 is 1. Assumes nothing.
use Rattle.std.specs.Prelude.{Ok, Err}
use mathlib.Core.Path.{◌≡◌, refl, sym, subst}
use mathlib.Core.Bool.{Bool, true, false, ◌&&◌, not}
use mathlib.Core.List.{List, [], ◌∷◌}
use Prim.Native.Nat.{ℕ, ◌≤◌}
use native.Mathlib.Omega.{arith}
use lib.Dec.{eqb, ltb}
use Rattle.answer.specs.declared.Answer.{Answer}
use Rattle.answer.specs.Table as table
use Rattle.text.specs.Bytes.{is_blank}
use Rattle.list.specs.Listing.{Kind, group, choice, leaf, Listing, child, is_group, is_choice}
use Rattle.xml.specs.Message.{Attrs, Inside, nothing_inside, character, element}
use Rattle.file_walk.specs.Types.{Types, Judge}
use Rattle.file_walk.specs.First.{Found, First, refuse, or_else, is_empty, passed, breaks, text_of, currency_given, attrs_ok, kind_of, is_root, absent_row, child_rows, opening, group_end, closing, inside, first_violation}
use Rattle.file_walk.proofs.violation.Opening.{over_count, opening_is}

-- a code from 4 to 13, with row 1 of 4
abbrev pub Line : Answer → Type 0
Line a = (4 ≤ a.code) × (a.code ≤ 13) × (a.code ≡ 4 → a.row ≡ 1)

abbrev pub Coded : Found → Type 0
Coded (Ok tt) = Unit {0}
Coded (Err a) = Line a

or_coded : (f g : Found) → Coded f → Coded g → Coded (or_else f g)
or_coded (Ok tt) g h i = i
or_coded (Err a) g h i = h

-- a test, and then others
test_coded : (b : Bool) (a : Answer) (g : Found) → Line a → Coded g → Coded (or_else (refuse b a) g)
test_coded true a g h i = h
test_coded false a g h i = i

-- one of a line after 4
later : (b : Bool) (a : Answer) (g : Found) → 5 ≤ a.code → a.code ≤ 13 → Coded g → Coded (or_else (refuse b a) g)
later b a g h i = test_coded b a g (omega arith, i, λ e. absurd (omega arith))

module _ (j : Judge) (l : Listing) where
  opening_coded : (p : ℕ) (seen : List ℕ) (r : ℕ) (ats : Attrs) (o : ℕ) → Coded (opening j l p seen r ats o)
  opening_coded p seen r ats o = subst Coded (sym (opening_is j l p seen r ats o)) (
      later (eqb r 0) (table.not_a_child p o) _ (omega arith) (omega arith)
      (later (not (is_choice (kind_of l p)) && passed r seen) (table.out_of_order r o) _ (omega arith) (omega arith)
      (later (over_count l (kind_of l p) seen r) (table.too_many r o) _ (omega arith) (omega arith)
      (later (not (attrs_ok j (kind_of l r) ats)) (table.wrong_attributes r o) (Ok tt) (omega arith) (omega arith) tt))))

  group_coded : (r o : ℕ) (rs : List ℕ) → Coded (group_end j l r o rs)
  group_coded r o rs =
      later (is_empty rs) (table.empty r o) _ (omega arith) (omega arith)
      (later (ltb 0 (absent_row l r rs)) (table.absent (absent_row l r rs) o) _ (omega arith) (omega arith)
      (later (breaks r rs l.rules) (table.rule_broken r o) (Ok tt) (omega arith) (omega arith) tt))

  closing_coded : (k : Kind) (r o : ℕ) (ats : Attrs) (rs cs : List ℕ) → Coded (closing j l k r o ats rs cs)
  closing_coded group r o ats rs cs = group_coded r o rs
  closing_coded choice r o ats rs cs = group_coded r o rs
  closing_coded (leaf k) r o ats rs cs =
      later (is_empty cs) (table.empty r o) _ (omega arith) (omega arith)
      (later (not (j.value k (currency_given ats) cs)) (table.bad_value r o) (Ok tt) (omega arith) (omega arith) tt)

  inside_coded : (m : Inside) (p : ℕ) (seen : List ℕ) → Coded (inside j l p seen m)
  unfolding inside
  inside_coded nothing_inside p seen = tt
  inside_coded (character o x m) p seen =
      later (is_group (kind_of l p) && not (is_blank x)) (table.text_in_group p o) _ (omega arith) (omega arith)
      (or_coded (inside j l p seen m) (Ok tt) (inside_coded m p seen) tt)
  inside_coded (element o n ats i m) p seen =
      let r = child l p n in
      or_coded (opening j l p seen r ats o) _ (opening_coded p seen r ats o)
      (or_coded (inside j l r [] i) _ (inside_coded i r [])
      (or_coded (closing j l (kind_of l r) r o ats (child_rows l r i) (text_of i)) _ (closing_coded (kind_of l r) r o ats (child_rows l r i) (text_of i))
      (or_coded (inside j l p (r ∷ seen) m) (Ok tt) (inside_coded m p (r ∷ seen)) tt)))

  coded : (m : Inside) → Coded (first_violation j l m)
  unfolding first_violation
  coded nothing_inside = tt
  coded (character o x m) = tt
  coded (element o n ats i m) =
      test_coded (not (is_root l n ats)) (table.wrong_root o) _ (omega arith, omega arith, λ e. refl)
      (or_coded (inside j l 1 [] i) _ (inside_coded i 1 [])
      (or_coded (closing j l (kind_of l 1) 1 o ats (child_rows l 1 i) (text_of i)) (Ok tt) (closing_coded (kind_of l 1) 1 o ats (child_rows l 1 i) (text_of i)) tt))

-- what is found first in a message has a code from 4 to 13, and row 1 where it is 4
pub violation_code : (t : Types) (l : Listing) (m : Inside) (a : Answer) → First t l m (Err a) → (4 ≤ a.code) × (a.code ≤ 13) × (a.code ≡ 4 → a.row ≡ 1)
violation_code t l m a f = subst Coded f.is (coded f.judge l m)
