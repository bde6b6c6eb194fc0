-- The lists of files and of images: each is what its table says, and is told by its kind byte and by its namespace; those of files lie within those of images. Assumes nothing.
use mathlib.Core.Path.{◌≡◌, refl, sym, ◌∙◌, ap, subst}
use mathlib.Core.Logic.{inl, inr}
use mathlib.Core.Bool.{Bool, true, false, cond, true≢false}
use Prim.Native.Nat.{ℕ}
use native.Mathlib.Omega.{arith}
use lib.Dec.{eqb}
use Rattle.text.specs.Bytes.{ascii}
use Rattle.text.specs.Lists.{same}
use Rattle.text.proofs.Parts.{same_of}
use Rattle.list.specs.Listing.{Listing, row_at}
use Rattle.list.specs.WellFormed.{WellFormed}
use Rattle.list.specs.tables.Table.{list_of}
use Rattle.list.specs.tables.Sound.{Sound}
use Rattle.list.specs.tables.Laid.{laid}
use Rattle.list.specs.Within.{Among, Within, Kept}
use Rattle.list.proofs.Laid.{laid_list, laid_sound}
use Rattle.list.proofs.Changed.{altered_within}
use Rattle.list_house.specs.House.{house, report, stored_house, stored_report, rows_narrower}
use Rattle.list_house.specs.mirror.HouseTable.{house_rows, report_rows, stored_house_rows, stored_report_rows, house_pool}
use Rattle.list_house.specs.mirror.Rows.{asked_rows, kept_rows}
use Rattle.list_house.specs.Lists.{asked, asked_of, stored}
use Rattle.list_house.proofs.HouseSound.{house_is, house_sound, house_well, report_is, report_sound, report_well, stored_house_is, stored_house_sound, stored_house_well, stored_report_is, stored_report_sound, stored_report_well}

-- what holds of each list of files
pub each_asked : (P : Listing → Type 0) → P house → P report → (l : Listing) → Among l asked → P l
each_asked P h r l (inl e) = subst P (sym e) h
each_asked P h r l (inr (inl e)) = subst P (sym e) r
each_asked P h r l (inr (inr e)) = absurd e

-- what holds of each list of images
pub each_stored : (P : Listing → Type 0) → P stored_house → P stored_report → (l : Listing) → Among l stored → P l
each_stored P h r l (inl e) = subst P (sym e) h
each_stored P h r l (inr (inl e)) = subst P (sym e) r
each_stored P h r l (inr (inr e)) = absurd e

pub house_byte : house.byte ≡ 1
unfolding house stored_house
house_byte = refl

pub report_byte : report.byte ≡ 2
unfolding report stored_report
report_byte = refl

pub stored_house_byte : stored_house.byte ≡ 1
unfolding stored_house
stored_house_byte = refl

pub stored_report_byte : stored_report.byte ≡ 2
unfolding stored_report
stored_report_byte = refl

pub house_asked : Among house asked
house_asked = inl refl

pub report_asked : Among report asked
report_asked = inr (inl refl)

pub house_stored : Among stored_house stored
house_stored = inl refl

pub report_stored : Among stored_report stored
report_stored = inr (inl refl)

-- ---- every list of files lies within one of images

pub house_within : Within house stored_house
unfolding row_at house stored_house rows_narrower
house_within = altered_within stored_house rows_narrower (
  record { parent = refl; kind = refl; count = λ n h. omega arith },
  (record { parent = refl; kind = refl; count = λ n h. h }, (record { parent = refl; kind = refl; count = λ n h. h }, tt)),
)

pub report_within : Within report stored_report
unfolding row_at report stored_report rows_narrower
report_within = altered_within stored_report rows_narrower (
  record { parent = refl; kind = refl; count = λ n h. omega arith },
  (record { parent = refl; kind = refl; count = λ n h. h }, (record { parent = refl; kind = refl; count = λ n h. h }, tt)),
)

pub asked_kept : (l : Listing) → Among l asked → Kept l stored
asked_kept =
    each_asked (λ l. Kept l stored)
    (record { list = stored_house; among = house_stored; within = house_within })
    (record { list = stored_report; among = report_stored; within = report_within })

-- ---- of files: the table of a kind byte says its list, is sound, and the list is well-formed

pub asked_is : (l : Listing) → Among l asked → list_of (asked_rows l.byte) house_pool ≡ l
asked_is =
    each_asked (λ l. list_of (asked_rows l.byte) house_pool ≡ l)
    (ap (λ (b : ℕ). list_of (asked_rows b) house_pool) house_byte ∙ house_is)
    (ap (λ (b : ℕ). list_of (asked_rows b) house_pool) report_byte ∙ report_is)

pub asked_sound : (b : ℕ) → Sound (asked_rows b) house_pool
asked_sound b = go (eqb b 2)
  where
    go : (x : Bool) → Sound (cond x report_rows house_rows) house_pool
    go true = report_sound
    go false = house_sound

pub asked_well : (l : Listing) → Among l asked → WellFormed l
asked_well = each_asked WellFormed house_well report_well

-- the list that a table says is that of its kind byte
pub asked_of_lem : (b : ℕ) → list_of (asked_rows b) house_pool ≡ asked_of b
asked_of_lem b = go (eqb b 2)
  where
    go : (x : Bool) → list_of (cond x report_rows house_rows) house_pool ≡ cond x report house
    go true = report_is
    go false = house_is

-- ---- of images, and over 256 rows

pub stored_is : (l : Listing) → Among l stored → list_of (kept_rows l.byte) house_pool ≡ l
stored_is =
    each_stored (λ l. list_of (kept_rows l.byte) house_pool ≡ l)
    (ap (λ (b : ℕ). list_of (kept_rows b) house_pool) stored_house_byte ∙ stored_house_is)
    (ap (λ (b : ℕ). list_of (kept_rows b) house_pool) stored_report_byte ∙ stored_report_is)

pub stored_sound : (b : ℕ) → Sound (kept_rows b) house_pool
stored_sound b = go (eqb b 2)
  where
    go : (x : Bool) → Sound (cond x stored_report_rows stored_house_rows) house_pool
    go true = stored_report_sound
    go false = stored_house_sound

pub kept_is : (l : Listing) → Among l stored → list_of (laid (kept_rows l.byte)) house_pool ≡ l
kept_is l i = laid_list (kept_rows l.byte) house_pool ∙ stored_is l i

pub kept_sound : (b : ℕ) → Sound (laid (kept_rows b)) house_pool
kept_sound b = laid_sound (kept_rows b) house_pool (stored_sound b)

pub kept_well : (l : Listing) → Among l stored → WellFormed l
kept_well = each_stored WellFormed stored_house_well stored_report_well

-- ---- a kind byte and a namespace tell the list; each root is called alike

pub kinds_tell : (l m : Listing) → Among l asked → Among m asked → l.byte ≡ m.byte → l ≡ m
kinds_tell l m i j e = sym (asked_is l i) ∙ ap (λ (b : ℕ). list_of (asked_rows b) house_pool) e ∙ asked_is m j

pub bytes_tell : (l m : Listing) → Among l stored → Among m stored → l.byte ≡ m.byte → l ≡ m
bytes_tell l m i j e = sym (stored_is l i) ∙ ap (λ (b : ℕ). list_of (kept_rows b) house_pool) e ∙ stored_is m j

spaces_differ : same house.space report.space ≡ false
unfolding house report stored_house stored_report same
spaces_differ = refl

differ : house.space ≡ report.space → ⊥
differ e = true≢false (sym (same_of house.space report.space e) ∙ spaces_differ)

pub spaces_tell : (l m : Listing) → Among l asked → Among m asked → l.space ≡ m.space → l ≡ m
spaces_tell l m i j =
    each_asked (λ x. x.space ≡ m.space → x ≡ m)
    (each_asked (λ y. house.space ≡ y.space → house ≡ y) (λ e. refl) (λ e. absurd (differ e)) m j)
    (each_asked (λ y. report.space ≡ y.space → report ≡ y) (λ e. absurd (differ (sym e))) (λ e. refl) m j)
    l i

house_root : (row_at house 1).name ≡ ascii "Document"
unfolding house stored_house rows_narrower row_at
house_root = refl

report_root : (row_at report 1).name ≡ ascii "Document"
unfolding report stored_report rows_narrower row_at
report_root = refl

pub roots_alike : (l : Listing) → Among l asked → (row_at l 1).name ≡ ascii "Document"
roots_alike = each_asked (λ l. (row_at l 1).name ≡ ascii "Document") house_root report_root
