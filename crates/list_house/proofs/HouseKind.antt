-- The kind of a row of the house list, as a number: what the table's column says. Assumes nothing.
use mathlib.Core.Path.{◌≡◌, refl, sym, ◌∙◌, ap}
use mathlib.Core.Bool.{true}
use Prim.Native.Nat.{ℕ, suc, ◌≤◌, ◌<◌}
use native.Mathlib.Omega.{arith}
use native.Mathlib.Decide.{dec_lt}
use lib.Dec.{eqb}
use borrow.Author.Tests.{eqb-true}
use Rattle.text.proofs.Classes.{every, passes}
use Rattle.list.specs.Listing.{ref, iban, ccy, bool, num, amt, date, dtm, txt, enum, Kind, group, choice, leaf, Row, Listing, size, row_at, is_group}
use Rattle.list.specs.tables.Table.{cell}
use Rattle.list.specs.Within.{Among}
use Rattle.list.proofs.rows.Next.{row_past}
use Rattle.list.proofs.rows.Cells.{no_row}
use Rattle.list_house.specs.House.{house, stored_report}
use Rattle.list_house.specs.mirror.HouseTable.{house_rows}
use Rattle.list_house.proofs.HouseSound.{house_well, stored_report_well}
use Rattle.list_house.proofs.Lists.{each_stored, house_within}
use Rattle.list_house.specs.Kind.{number_of, house_kind}
use Rattle.list_house.specs.Lists.{stored}

-- after the last row there is none
pub kind_past : (m : ℕ) → suc (size house) ≡ m → (r : ℕ) → m ≤ r → 0 ≡ house_kind r
kind_past m e r h = sym (ap (λ (x : Row). number_of x.kind) (row_past house r (omega arith)))

-- no list has a row above 255
column_test : every (λ r. eqb (house_kind r) (cell house_rows r 2)) 1 255 ≡ true
unfolding row_at house cell house_rows
column_test = refl

-- of every number but 0, whose cells are the list's own, it is what the column says
pub kind_column : (r : ℕ) → 0 < r → house_kind r ≡ cell house_rows r 2
kind_column r h = elim (dec_lt 255 r) [
  | no l ↦ eqb-true (house_kind r) (cell house_rows r 2) (passes (λ y. eqb (house_kind y) (cell house_rows y 2)) 1 255 column_test r h (omega arith))
  | yes l ↦ sym (kind_past (suc (size house)) refl r (omega (arith, house_well.bytes))) ∙ no_row house_rows r 2 (omega arith) l
]

report_test : every (λ r. eqb (number_of (row_at stored_report r).kind) (house_kind r)) 0 256 ≡ true
unfolding row_at house stored_report
report_test = refl

-- the lists of images have rows of the same kinds, but for an ENUM's words
pub stored_kind : (l : Listing) → Among l stored → (r : ℕ) → number_of (row_at l r).kind ≡ house_kind r
stored_kind = each_stored (λ l. (r : ℕ) → number_of (row_at l r).kind ≡ house_kind r) (λ r. ap number_of (sym (house_within.kinds r))) (λ r. elim (dec_lt 255 r) [
  | no h ↦ eqb-true (number_of (row_at stored_report r).kind) (house_kind r) (passes (λ y. eqb (number_of (row_at stored_report y).kind) (house_kind y)) 0 256 report_test r (omega arith) (omega arith))
  | yes h ↦ ap (λ (x : Row). number_of x.kind) (row_past stored_report r (omega (arith, stored_report_well.bytes))) ∙ kind_past (suc (size house)) refl r (omega (arith, house_well.bytes))
])

-- a number below a leaf's is a group's
pub low_group : (k : Kind) → number_of k < 2 → is_group k ≡ true
low_group group h = refl
low_group choice h = refl
low_group (leaf ref) h = absurd (omega arith)
low_group (leaf (txt n)) h = absurd (omega arith)
low_group (leaf iban) h = absurd (omega arith)
low_group (leaf ccy) h = absurd (omega arith)
low_group (leaf (enum ws)) h = absurd (omega arith)
low_group (leaf bool) h = absurd (omega arith)
low_group (leaf num) h = absurd (omega arith)
low_group (leaf amt) h = absurd (omega arith)
low_group (leaf date) h = absurd (omega arith)
low_group (leaf dtm) h = absurd (omega arith)
