-- Of a file, 8 never names row 35: a BkTxCd with a child has Domn, since nothing else may stand there. And in a good file each has exactly one. Assumes nothing.
use Rattle.std.specs.Prelude.{Ok, Err}
use mathlib.Core.Path.{◌≡◌, refl, sym, ◌∙◌, ap, subst}
use mathlib.Core.Logic.{◌≢◌}
use mathlib.Core.Bool.{Bool, true, false, ◌&&◌, not, true≢false, false≢true}
use mathlib.Core.List.{List, [], ◌∷◌}
use Prim.Native.Nat.{ℕ, zero, suc, ◌+◌, ◌<◌}
use native.Mathlib.Omega.{arith}
use native.Mathlib.Decide.{ℕ_discrete}
use lib.Dec.{eqb, ltb}
use lib.ListN.{length}
use borrow.Author.Tests.{eqb-true, eq-eqb, ltb-true, not-true}
use Rattle.answer.specs.declared.Answer.{Answer}
use Rattle.answer.specs.Table as table
use Rattle.text.specs.Lists.{Each}
use Rattle.text.proofs.Classes.{and_is}
use Rattle.text_characters.specs.Pieces.{spell}
use Rattle.list.specs.Words.{times, has}
use Rattle.list.specs.Listing.{Kind, group, choice, leaf, Count, Listing, size, row_at, Child, child, is_group, is_choice, required}
use Rattle.list.specs.Content.{CountOk, Children}
use Rattle.list.specs.Within.{Among}
use Rattle.list.specs.Changed.{Gone}
use Rattle.list.proofs.rows.Words.{first_from_some, has_of}
use Rattle.list.proofs.rows.Child.{child_found}
use Rattle.list.proofs.Retired.{one_left}
use Rattle.list_house.specs.Lists.{asked}
use Rattle.list_house.proofs.Retired.{GoneRows, gone_rows}
use Rattle.xml.specs.House.{IsName, Markup as Tags, no_more as over, piece, empty_tag, full, tag, render, GoodMarkup}
use Rattle.xml.specs.Message.{Attrs, Inside, nothing_inside, character, element, parts_of, root_at}
use Rattle.text.specs.Bytes.{is_blank}
use Rattle.file_walk.specs.Types.{Judge}
use Rattle.file_walk.specs.First.{Found, refuse, or_else, is_empty, passed, breaks, text_of, currency_given, attrs_ok, kind_of, is_root, absent_row, child_rows, opening, group_end, closing, inside, first_violation}
use Rattle.file_walk.proofs.violation.Opening.{over_count, opening_is}
use Rattle.file.specs.Instance.{house_kinds}
use Rattle.file.specs.File.{message_in}
use Rattle.file.specs.Checks.{Answers, Checks, long, bad_bytes, markup, violation, room, imaged}
use Rattle.demands.proofs.Causes.{Means, refused}

-- ---- what is found, one test after the other

is_fine_lem : Found → Bool
is_fine_lem (Ok tt) = true
is_fine_lem (Err a) = false

both_fine : (f g : Found) → or_else f g ≡ Ok tt → (f ≡ Ok tt) × (g ≡ Ok tt)
unfolding is_fine_lem
both_fine (Ok tt) g e = (refl, e)
both_fine (Err a) g e = absurd (false≢true (ap is_fine_lem e))

fine_not : (b : Bool) (a : Answer) → refuse b a ≡ Ok tt → b ≡ false
unfolding is_fine_lem
fine_not true a e = absurd (false≢true (ap is_fine_lem e))
fine_not false a e = refl

then_means : (P : Answer → Type 0) (f g : Found) → Means P f → (f ≡ Ok tt → Means P g) → Means P (or_else f g)
then_means P (Ok tt) g h k = k refl
then_means P (Err a) g h k = h

-- ---- every element has a name

abbrev Named : Inside → Type 0
Named nothing_inside = Unit {0}
Named (character o x k) = Named k
Named (element o n ats i k) = (n ≢ []) × Named i × Named k

has_name : (n : List ℕ) → IsName n → n ≢ []
has_name n i e = subst IsName e i

named_parts : (i : Tags) (d o : ℕ) → GoodMarkup d i → Named (parts_of o i)
named_parts over d o g = tt
named_parts (piece x i) d o g = named_parts i d (o + length (spell x)) g.2
named_parts (empty_tag t i) zero o g = absurd g
named_parts (empty_tag t i) (suc d) o g = (has_name t.name g.0.name, tt, named_parts i (suc d) (o + length (render (empty_tag t over))) g.1)
named_parts (full t j b i) zero o g = absurd g
named_parts (full t j b i) (suc d) o g =
    (has_name t.name g.0.name, named_parts j d (o + (length (tag t) + 2)) g.1, named_parts i (suc d) (o + length (render (full t j b over))) g.3)

-- ---- 8 with row 35

abbrev NoEight : Answer → Type 0
NoEight a = a.code ≡ 8 → a.row ≡ 35 → ⊥

other : (b : Bool) (a : Answer) → eqb a.code 8 ≡ false → Means NoEight (refuse b a)
other b a t = refused NoEight b a (λ e z y. true≢false (sym (eq-eqb a.code 8 z) ∙ t))

module _ (j : Judge) (l : Listing) (g : GoneRows l) where
  -- a child of p, and not gone
  abbrev There : ℕ → ℕ → Type 0
  There p q = Child l p q × (Gone l q → ⊥)

  -- where nothing is found among the parts of an element of row p, each element there is a child of p
  all_there : (m : Inside) (p : ℕ) (seen : List ℕ) → Named m → inside j l p seen m ≡ Ok tt → Each (There p) (child_rows l p m)
  unfolding inside child_rows
  all_there nothing_inside p seen n e = tt
  all_there (character o x k) p seen n e =
      let a = both_fine (refuse (is_group (kind_of l p) && not (is_blank x)) (table.text_in_group p o)) (or_else (inside j l p seen k) (Ok tt)) e in
      let b = both_fine (inside j l p seen k) (Ok tt) a.1 in
      all_there k p seen n b.0
  all_there (element o n ats i k) p seen h e =
      let r = child l p n in
      let c = closing j l (kind_of l r) r o ats (child_rows l r i) (text_of i) in
      let a = both_fine (opening j l p seen r ats o) (or_else (inside j l r [] i) (or_else c (or_else (inside j l p (r ∷ seen) k) (Ok tt)))) e in
      let b = both_fine (inside j l r [] i) (or_else c (or_else (inside j l p (r ∷ seen) k) (Ok tt))) a.1 in
      let d = both_fine c (or_else (inside j l p (r ∷ seen) k) (Ok tt)) b.1 in
      let f = both_fine (inside j l p (r ∷ seen) k) (Ok tt) d.1 in
      (there a.0, all_there k p (r ∷ seen) h.2 f.0)
    where
      there : opening j l p seen (child l p n) ats o ≡ Ok tt → There p (child l p n)
      there z =
          let r = child l p n in
          let b = refuse (not (is_choice (kind_of l p)) && passed r seen) (table.out_of_order r o) in
          let c = refuse (over_count l (kind_of l p) seen r) (table.too_many r o) in
          let d = refuse (not (attrs_ok j (kind_of l r) ats)) (table.wrong_attributes r o) in
          let t = fine_not (eqb r 0) (table.not_a_child p o) (both_fine (refuse (eqb r 0) (table.not_a_child p o)) (or_else b (or_else c (or_else d (Ok tt)))) (sym (opening_is j l p seen r ats o) ∙ z)).0 in
          let f = child_found l p n r refl (positive r t) in
          (f.its, λ w. h.0 (sym f.name ∙ w))
        where
          positive : (r : ℕ) → eqb r 0 ≡ false → 0 < r
          positive r t = elim (ℕ_discrete r 0) [
            | yes q ↦ absurd (true≢false (sym (eq-eqb r 0 q) ∙ t))
            | no q ↦ omega arith
          ]

  theirs : (p : ℕ) (rs : List ℕ) → Each (There p) rs → Each (Child l p) rs × Each (λ q. Gone l q → ⊥) rs
  theirs p [] h = (tt, tt)
  theirs p (q ∷ rs) h = let w = theirs p rs h.1 in ((h.0.0, w.0), (h.0.1, w.1))

  some_row : (rs : List ℕ) → is_empty rs ≡ false → 0 < length rs
  some_row [] e = absurd (true≢false e)
  some_row (q ∷ rs) e = omega arith

  absent_not : (r : ℕ) (rs : List ℕ) → is_empty rs ≡ false → Each (There r) rs → ltb 0 (absent_row l r rs) ≡ true → absent_row l r rs ≡ 35 → ⊥
  unfolding absent_row
  absent_not r rs e h t y =
      let f : ℕ → Bool = λ q. eqb (row_at l q).parent r && (required (row_at l q).count && not (has q rs)) in
      let s = first_from_some f 1 (size l) (absent_row l r rs) refl (ltb-true 0 (absent_row l r rs) t) in
      let p : f 35 ≡ true = subst (λ (q : ℕ). f q ≡ true) y s.passes in
      let a = and_is (eqb (row_at l 35).parent r) (required (row_at l 35).count && not (has 35 rs)) p in
      let b = and_is (required (row_at l 35).count) (not (has 35 rs)) a.1 in
      let z : r ≡ 34 = sym (eqb-true (row_at l 35).parent r a.0) ∙ g.domain.0.parent in
      let w = theirs r rs h in
      let k = one_left l r 35 rs (λ q c. g.beside q (subst (λ (x : ℕ). Child l x q) z c)) (some_row rs e) w.0 w.1 in
      true≢false (sym (has_of 35 rs k) ∙ not-true (has 35 rs) b.1)

  group_eight : (r o : ℕ) (rs : List ℕ) → Each (There r) rs → Means NoEight (group_end j l r o rs)
  group_eight r o rs h =
      let a = refuse (is_empty rs) (table.empty r o) in
      let b = refuse (ltb 0 (absent_row l r rs)) (table.absent (absent_row l r rs) o) in
      let c = refuse (breaks r rs l.rules) (table.rule_broken r o) in
      then_means NoEight a (or_else b (or_else c (Ok tt))) (other (is_empty rs) (table.empty r o) refl) (λ e.
      then_means NoEight b (or_else c (Ok tt))
      (refused NoEight (ltb 0 (absent_row l r rs)) (table.absent (absent_row l r rs) o) (λ t z y. absent_not r rs (fine_not (is_empty rs) (table.empty r o) e) h t y)) (λ f.
      then_means NoEight c (Ok tt) (other (breaks r rs l.rules) (table.rule_broken r o) refl) (λ k. tt)))

  closing_eight : (k : Kind) (r o : ℕ) (ats : Attrs) (rs cs : List ℕ) → Each (There r) rs → Means NoEight (closing j l k r o ats rs cs)
  closing_eight group r o ats rs cs h = group_eight r o rs h
  closing_eight choice r o ats rs cs h = group_eight r o rs h
  closing_eight (leaf f) r o ats rs cs h =
      let a = refuse (is_empty cs) (table.empty r o) in
      let b = refuse (not (j.value f (currency_given ats) cs)) (table.bad_value r o) in
      then_means NoEight a (or_else b (Ok tt)) (other (is_empty cs) (table.empty r o) refl) (λ e.
      then_means NoEight b (Ok tt) (other (not (j.value f (currency_given ats) cs)) (table.bad_value r o) refl) (λ z. tt))

  opening_eight : (q : ℕ) (seen : List ℕ) (r : ℕ) (ats : Attrs) (o : ℕ) → Means NoEight (opening j l q seen r ats o)
  opening_eight q seen r ats o =
      let a = refuse (eqb r 0) (table.not_a_child q o) in
      let b = refuse (not (is_choice (kind_of l q)) && passed r seen) (table.out_of_order r o) in
      let c = refuse (over_count l (kind_of l q) seen r) (table.too_many r o) in
      let d = refuse (not (attrs_ok j (kind_of l r) ats)) (table.wrong_attributes r o) in
      subst (Means NoEight) (sym (opening_is j l q seen r ats o)) (then_means NoEight a (or_else b (or_else c (or_else d (Ok tt)))) (other (eqb r 0) (table.not_a_child q o) refl) (λ e.
      then_means NoEight b (or_else c (or_else d (Ok tt))) (other (not (is_choice (kind_of l q)) && passed r seen) (table.out_of_order r o) refl) (λ e.
      then_means NoEight c (or_else d (Ok tt)) (other (over_count l (kind_of l q) seen r) (table.too_many r o) refl) (λ e.
      then_means NoEight d (Ok tt) (other (not (attrs_ok j (kind_of l r) ats)) (table.wrong_attributes r o) refl) (λ e. tt)))))

  inside_eight : (m : Inside) (p : ℕ) (seen : List ℕ) → Named m → Means NoEight (inside j l p seen m)
  unfolding inside
  inside_eight nothing_inside p seen n = tt
  inside_eight (character o x k) p seen n =
      then_means NoEight (refuse (is_group (kind_of l p) && not (is_blank x)) (table.text_in_group p o)) (or_else (inside j l p seen k) (Ok tt))
      (other (is_group (kind_of l p) && not (is_blank x)) (table.text_in_group p o) refl) (λ e.
      then_means NoEight (inside j l p seen k) (Ok tt) (inside_eight k p seen n) (λ z. tt))
  inside_eight (element o n ats i k) p seen h =
      let r = child l p n in
      let c = closing j l (kind_of l r) r o ats (child_rows l r i) (text_of i) in
      then_means NoEight (opening j l p seen r ats o) (or_else (inside j l r [] i) (or_else c (or_else (inside j l p (r ∷ seen) k) (Ok tt)))) (opening_eight p seen r ats o) (λ e.
      then_means NoEight (inside j l r [] i) (or_else c (or_else (inside j l p (r ∷ seen) k) (Ok tt))) (inside_eight i r [] h.1) (λ f.
      then_means NoEight c (or_else (inside j l p (r ∷ seen) k) (Ok tt)) (closing_eight (kind_of l r) r o ats (child_rows l r i) (text_of i) (all_there i r [] h.1 f)) (λ z.
      then_means NoEight (inside j l p (r ∷ seen) k) (Ok tt) (inside_eight k p (r ∷ seen) h.2) (λ y. tt))))

  first_eight : (m : Inside) → Named m → Means NoEight (first_violation j l m)
  unfolding first_violation
  first_eight nothing_inside n = tt
  first_eight (character o x k) n = tt
  first_eight (element o n ats i k) h =
      let a = refuse (not (is_root l n ats)) (table.wrong_root o) in
      let c = closing j l (kind_of l 1) 1 o ats (child_rows l 1 i) (text_of i) in
      then_means NoEight a (or_else (inside j l 1 [] i) (or_else c (Ok tt))) (other (not (is_root l n ats)) (table.wrong_root o) refl) (λ e.
      then_means NoEight (inside j l 1 [] i) (or_else c (Ok tt)) (inside_eight i 1 [] h.1) (λ f.
      then_means NoEight c (Ok tt) (closing_eight (kind_of l 1) 1 o ats (child_rows l 1 i) (text_of i) (all_there i 1 [] h.1 f)) (λ z. tt)))

-- "Domn becomes 1..1", and its absence is told by another code
pub no_eight : (s d : List ℕ) (a : Answer) (d' : List ℕ) → Checks s d a d' → NoEight a
no_eight s d a d' p = go p.answers
  where
    code : (b : Answer) → a ≡ b → a.code ≡ b.code
    code b e = ap (λ (x : Answer). x.code) e

    go : Answers house_kinds p.list s d a d' → NoEight a
    go (long h e f) z y = omega (arith, code table.too_long e)
    go (bad_bytes h k n w e f) z y = omega (arith, code (table.not_utf8 n) e)
    go (markup h k x n w e f) z y = omega (arith, code (table.not_house_xml n) e)
    go (violation w f e) z y =
        let t = w.xml.tree in
        subst (Means NoEight) f.is (first_eight f.judge p.list (gone_rows p.list p.among) (message_in w) (named_parts t.root 16 (root_at t) w.xml.good.root)) z y
    go (room c f h e q) z y = omega (arith, ap (λ (x : Answer). x.code) e)
    go (imaged c f h e q) z y = omega (arith, ap (λ (x : Answer). x.code) e)

-- in what a file of these lists says, each BkTxCd has exactly one Domn
pub domain_once : (l : Listing) → Among l asked → (rs : List ℕ) → Children l 34 rs → times 35 rs ≡ 1
domain_once l i rs h = let g = gone_rows l i in subst (λ (x : Count). CountOk x (times 35 rs)) g.domain.1 (h.counts 35 g.domain.0)
