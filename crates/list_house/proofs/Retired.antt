-- What the lists of files have given up: rows 40 and 41 are gone, and a stored content without them meets the list of files of its kind. Assumes nothing.
use mathlib.Core.Path.{◌≡◌, refl, sym, ◌∙◌, ap, subst}
use mathlib.Core.Logic.{◌⊎◌, inl, inr}
use mathlib.Core.Bool.{Bool, true, not, ◌||◌, true≢false}
use mathlib.Core.List.{[]}
use Prim.Native.Nat.{ℕ, ◌≤◌}
use native.Mathlib.Omega.{arith}
use lib.Dec.{eqb}
use borrow.Author.Tests.{eqb-true, eq-eqb, not-true}
use Rattle.text.specs.Lists.{same}
use Rattle.text.proofs.Parts.{same_eq, same_of}
use Rattle.text.proofs.Classes.{every, passes, or_is}
use Rattle.list.specs.Listing.{one, Listing, size, row_at, Child}
use Rattle.list.specs.Within.{Among, Within}
use Rattle.list.specs.Changed.{Gone}
use Rattle.list.proofs.Retired.{Retires, retires_altered}
use Rattle.list_house.specs.House.{house, report, stored_house, stored_report, rows_narrower}
use Rattle.list_house.specs.Lists.{asked, asked_of, stored}
use Rattle.list_house.proofs.Lists.{each_asked, each_stored, house_byte, report_byte, stored_house_byte, stored_report_byte, house_asked, report_asked, house_within, report_within}

-- ---- a list of files asks for more only of Domn, beside which nothing but Prtry stood, which is gone

-- of row q: no child of 34, or 35, or gone
abbrev left_of : Listing → ℕ → Bool
left_of l q = not (eqb (row_at l q).parent 34) || (eqb q 35 || same (row_at l q).name [])

left_is : (l : Listing) → size l ≤ 57 → every (left_of l) 0 58 ≡ true → (q : ℕ) → Child l 34 q → (q ≡ 35) ⊎ Gone l q
left_is l s e q c = go (or_is (not (eqb (row_at l q).parent 34)) (eqb q 35 || same (row_at l q).name []) (passes (left_of l) 0 58 e q (omega arith) (omega (arith, c.last))))
  where
    go : (not (eqb (row_at l q).parent 34) ≡ true) ⊎ ((eqb q 35 || same (row_at l q).name []) ≡ true) → (q ≡ 35) ⊎ Gone l q
    go (inl n) = absurd (true≢false (sym (eq-eqb (row_at l q).parent 34 c.parent) ∙ not-true (eqb (row_at l q).parent 34) n))
    go (inr o) = elim (or_is (eqb q 35) (same (row_at l q).name []) o) [
      | inl f ↦ inl (eqb-true q 35 f)
      | inr f ↦ inr (same_eq (row_at l q).name [] f)
    ]

house_left : every (left_of house) 0 58 ≡ true
unfolding row_at house stored_house rows_narrower same
house_left = refl

report_left : every (left_of report) 0 58 ≡ true
unfolding row_at report stored_report rows_narrower same
report_left = refl

house_retires : Retires house stored_house
unfolding row_at house stored_house rows_narrower
house_retires = retires_altered stored_house rows_narrower (
  inr (record { once = λ n h o. omega arith; siblings = left_is house (omega arith) house_left }),
  (inl (λ n h. h), (inl (λ n h. h), tt)),
)

report_retires : Retires report stored_report
unfolding row_at report stored_report rows_narrower
report_retires = retires_altered stored_report rows_narrower (
  inr (record { once = λ n h o. omega arith; siblings = left_is report (omega arith) report_left }),
  (inl (λ n h. h), (inl (λ n h. h), tt)),
)

-- a list of images, and the one that files of its kind are asked
pub record Narrowed (m : Listing) : Type 0 where
  pub among : Among (asked_of m.byte) asked
  pub within : Within (asked_of m.byte) m
  pub retires : Retires (asked_of m.byte) m

pub stored_narrowed : (m : Listing) → Among m stored → Narrowed m
stored_narrowed =
    each_stored Narrowed
    (go stored_house house (ap asked_of stored_house_byte) house_asked house_within house_retires)
    (go stored_report report (ap asked_of stored_report_byte) report_asked report_within report_retires)
  where
    go : (m l : Listing) → asked_of m.byte ≡ l → Among l asked → Within l m → Retires l m → Narrowed m
    go m l e i w r = record {
      among = subst (λ x. Among x asked) (sym e) i;
      within = subst (λ x. Within x m) (sym e) w;
      retires = subst (λ x. Retires x m) (sym e) r;
    }

pub asked_alike : (l : Listing) → Among l asked → asked_of l.byte ≡ l
asked_alike = each_asked (λ l. asked_of l.byte ≡ l) (ap asked_of house_byte) (ap asked_of report_byte)

-- ---- of the lists of files, rows 40 and 41 are gone, and no other

abbrev named_but : Listing → ℕ → Bool
named_but l r = not (same (row_at l r).name []) || (eqb r 40 || eqb r 41)

but_is : (l : Listing) → size l ≤ 57 → every (named_but l) 1 57 ≡ true → (p r : ℕ) → Child l p r → Gone l r → (r ≡ 40) ⊎ (r ≡ 41)
but_is l s e p r c g = go (or_is (not (same (row_at l r).name [])) (eqb r 40 || eqb r 41) (passes (named_but l) 1 57 e r c.first (omega (arith, c.last))))
  where
    go : (not (same (row_at l r).name []) ≡ true) ⊎ ((eqb r 40 || eqb r 41) ≡ true) → (r ≡ 40) ⊎ (r ≡ 41)
    go (inl n) = absurd (true≢false (sym (same_of (row_at l r).name [] g) ∙ not-true (same (row_at l r).name []) n))
    go (inr o) = elim (or_is (eqb r 40) (eqb r 41) o) [
      | inl f ↦ inl (eqb-true r 40 f)
      | inr f ↦ inr (eqb-true r 41 f)
    ]

record Read (l : Listing) : Type 0 where
  tested : every (named_but l) 1 57 ≡ true
  left : every (left_of l) 0 58 ≡ true
  many : size l ≡ 57
  under : (row_at l 41).parent ≡ 40
  group : Gone l 40
  domain : ((row_at l 35).parent ≡ 34) × ((row_at l 35).count ≡ one)

house_read : Read house
unfolding row_at house same
house_read = record { tested = refl; left = refl; many = refl; under = refl; group = refl; domain = (refl, refl) }

report_read : Read report
unfolding row_at report same
report_read = record { tested = refl; left = refl; many = refl; under = refl; group = refl; domain = (refl, refl) }

-- and 41 stands under 40; beside 35 stands nothing that is not gone
pub record GoneRows (l : Listing) : Type 0 where
  pub only : (p r : ℕ) → Child l p r → Gone l r → (r ≡ 40) ⊎ (r ≡ 41)
  pub under : (row_at l 41).parent ≡ 40
  pub group : Gone l 40
  pub domain : Child l 34 35 × ((row_at l 35).count ≡ one)
  pub beside : (q : ℕ) → Child l 34 q → (q ≡ 35) ⊎ Gone l q

read_gone : (l : Listing) → Read l → GoneRows l
read_gone l r = record {
  only = but_is l (omega (arith, r.many)) r.tested;
  under = r.under;
  group = r.group;
  domain = (record { first = omega arith; last = omega (arith, r.many); parent = r.domain.0 }, r.domain.1);
  beside = left_is l (omega (arith, r.many)) r.left;
}

pub gone_rows : (l : Listing) → Among l asked → GoneRows l
gone_rows = each_asked GoneRows (read_gone house house_read) (read_gone report report_read)
