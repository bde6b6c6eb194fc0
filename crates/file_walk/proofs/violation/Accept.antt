-- A message has no violation exactly when it has a content that meets the list; and it has one content. Assumes nothing.
use Rattle.std.specs.Prelude.{Ok}
use mathlib.Core.Path.{◌≡◌, refl, sym, ◌∙◌, ap, ap₂, subst}
use mathlib.Core.Bool.{true, false, ◌&&◌, not, and-false, true≢false, false≢true}
use mathlib.Core.List.{List, [], ◌∷◌}
use Prim.Native.Nat.{ℕ, ◌<◌}
use native.Mathlib.Omega.{arith}
use lib.Dec.{eqb}
use borrow.Author.Tests.{eq-eqb, not-false}
use Rattle.answer.specs.Table as table
use Rattle.text.specs.Bytes.{is_blank}
use Rattle.text.specs.Lists.{Each}
use Rattle.list.specs.Listing.{Leaf, Kind, group, choice, leaf, Listing, row_at, Child, child, is_group}
use Rattle.list.specs.WellFormed.{LeafOk, KindOk, WellFormed}
use Rattle.list.specs.Content.{Content, end, value, node, rows, ValueOf, Good, Meets}
use Rattle.xml.specs.Message.{Attrs, Inside, nothing_inside, character, element}
use Rattle.file_walk.specs.Types.{Types, Judge, Decides, Spelling}
use Rattle.file_walk.specs.First.{Found, First, refuse, first_of, is_empty, text_of, currency_given, attrs_ok, kind_of, is_root, child_rows, opening, leaf_end, closing, inside, first_violation}
use Rattle.file_walk.specs.Denotes.{OneElement, Denotes, Has}
use Rattle.list.proofs.sound.Tests.{clash}
use Rattle.file_walk.proofs.violation.Answers.{or_fine, refuse_no, group_attrs, attrs_group, kinds}
use Rattle.file_walk.proofs.violation.Opening.{opening_is}
use Rattle.file_walk.proofs.violation.Spells.{plain, Spells, spells_of, of_spells}
use Rattle.list.proofs.rows.Child.{child_found, child_is}
use Rattle.file_walk.proofs.violation.Tests.{no_child}
use Rattle.file_walk.proofs.violation.Steps.{Fits, Steps}
use Rattle.file_walk.proofs.violation.Tests.{Opened, opened, opens, closed, closes}

first_of4 : (a b c d : Found) → a ≡ Ok tt → b ≡ Ok tt → c ≡ Ok tt → d ≡ Ok tt → first_of (a ∷ b ∷ c ∷ d ∷ []) ≡ Ok tt
first_of4 a b c d ha hb hc hd = rw (ha, hb, hc, hd)

module _ (t : Types) (y : Spelling t) (j : Judge) (d : Decides t j) (l : Listing) (w : WellFormed l) where
  -- ---- from no violation to a content

  -- in a leaf there are characters only
  leaf_plain : (i : Inside) (p : ℕ) (seen : List ℕ) (f : Leaf) → 0 < p → kind_of l p ≡ leaf f → inside j l p seen i ≡ Ok tt → plain i ≡ true
  unfolding inside
  leaf_plain nothing_inside p seen f h e z = refl
  leaf_plain (character o x k) p seen f h e z =
      leaf_plain k p seen f h e (or_fine (inside j l p seen k) (Ok tt) (or_fine (refuse (is_group (kind_of l p) && not (is_blank x)) (table.text_in_group p o)) _ z).1).0
  leaf_plain (element o n ats i k) p seen f h e z =
      let a = or_fine (refuse (eqb (child l p n) 0) (table.not_a_child p o)) _ (or_fine (opening j l p seen (child l p n) ats o) _ z).0 in
      clash (eqb (child l p n) 0) (eq-eqb (child l p n) 0 (no_child l p n w f h e)) (refuse_no (eqb (child l p n) 0) (table.not_a_child p o) a.0)

  -- what no violation among p's parts comes to
  record Clean (p : ℕ) (seen : List ℕ) (i : Inside) : Type 0 where
    content : Content t.A
    denotes : Denotes t l p i content
    good : Good t.Is l content
    steps : Steps l (kind_of l p) seen (rows content)
    theirs : Each (Child l p) (rows content)
    rowed : child_rows l p i ≡ rows content

  spells : (k : Kind) (f : Leaf) (ats : Attrs) (i : Inside) (v : t.A) → k ≡ leaf f → plain i ≡ true → attrs_ok j k ats ≡ true → t.Spelt f (currency_given ats) (text_of i) v
      → Spells t l k ats i v × ValueOf t.Is l k v
  spells group f ats i v e a b c = absurd (true≢false (ap is_group e))
  spells choice f ats i v e a b c = absurd (true≢false (ap is_group e))
  spells (leaf g) f ats i v e a b c =
      let z : g ≡ f = cc in
      let s : t.Spelt g (currency_given ats) (text_of i) v = subst (λ x. t.Spelt x (currency_given ats) (text_of i) v) (sym z) c in
      ((a, (d.attrs g ats).0 b, s), y.is g (currency_given ats) (text_of i) v s)

  -- one element of row r, found good, and what follows it
  module _ (p : ℕ) (seen : List ℕ) (o : ℕ) (n : List ℕ) (ats : Attrs) (i k : Inside) (c : Child l p (child l p n)) (nm : (row_at l (child l p n)).name ≡ n)
      (op : Opened j l (kind_of l p) (kind_of l (child l p n)) seen (child l p n) ats) (after : Clean p (child l p n ∷ seen) k) where
    abbrev shut : Found
    shut = closing j l (kind_of l (child l p n)) (child l p n) o ats (child_rows l (child l p n) i) (text_of i)

    as_node : is_group (kind_of l (child l p n)) ≡ true → Clean (child l p n) [] i → shut ≡ Ok tt → Clean p seen (element o n ats i k)
    unfolding child_rows
    as_node g f z =
        let r = child l p n in
        let y = closed j l w (kind_of l r) r o ats (rows f.content) (text_of i) g refl f.steps f.theirs (subst (λ rs. closing j l (kind_of l r) r o ats rs (text_of i) ≡ Ok tt) f.rowed z) in
        record {
          content = node (child l p n) f.content after.content;
          denotes = ((c, nm), (g, group_attrs j (kind_of l (child l p n)) ats g op.attrs), f.denotes, after.denotes);
          good = ((g, y), f.good, after.good);
          steps = (op.fits, after.steps);
          theirs = (c, after.theirs);
          rowed = ap (λ rs. child l p n ∷ rs) after.rowed;
        }

    as_value : (f : Leaf) → kind_of l (child l p n) ≡ leaf f → plain i ≡ true → shut ≡ Ok tt → Clean p seen (element o n ats i k)
    unfolding child_rows
    as_value f e y z =
        let r = child l p n in
        let z' : leaf_end j l f r o ats (text_of i) ≡ Ok tt = subst (λ q. closing j l q r o ats (child_rows l r i) (text_of i) ≡ Ok tt) e z in
        let b = j.value f (currency_given ats) (text_of i) in
        let a = or_fine (refuse (not b) (table.bad_value r o)) (Ok tt) (or_fine (refuse (is_empty (text_of i)) (table.empty r o)) _ z').1 in
        let v = (d.value f (currency_given ats) (text_of i)).0 (not-false b (refuse_no (not b) (table.bad_value r o) a.0)) in
        let s = spells (kind_of l r) f ats i v.0 e y op.attrs v.1 in
        record {
          content = value (child l p n) v.0 after.content;
          denotes = ((c, nm), of_spells t l r ats i v.0 (kind_of l r) refl s.0, after.denotes);
          good = (s.1, after.good);
          steps = (op.fits, after.steps);
          theirs = (c, after.theirs);
          rowed = ap (λ rs. child l p n ∷ rs) after.rowed;
        }

  accepts : (i : Inside) (p : ℕ) (seen : List ℕ) → 0 < p → is_group (kind_of l p) ≡ true → inside j l p seen i ≡ Ok tt → Clean p seen i
  unfolding inside child_rows
  accepts nothing_inside p seen h g z = record { content = end; denotes = tt; good = tt; steps = tt; theirs = tt; rowed = refl }
  accepts (character o x k) p seen h g z =
      let a = or_fine (refuse (is_group (kind_of l p) && not (is_blank x)) (table.text_in_group p o)) _ z in
      let f = accepts k p seen h g (or_fine (inside j l p seen k) (Ok tt) a.1).0 in
      let b : (is_group (kind_of l p) && not (is_blank x)) ≡ false = refuse_no (is_group (kind_of l p) && not (is_blank x)) (table.text_in_group p o) a.0 in
      let d : not (is_blank x) ≡ false = sym (ap (λ y. y && not (is_blank x)) g) ∙ b in
      record { content = f.content; denotes = (not-false (is_blank x) d, f.denotes); good = f.good; steps = f.steps; theirs = f.theirs; rowed = f.rowed }
  accepts (element o n ats i k) p seen h g z =
      let r = child l p n in
      let a = or_fine (opening j l p seen r ats o) _ z in
      let b = or_fine (inside j l r [] i) _ a.1 in
      let c = or_fine (closing j l (kind_of l r) r o ats (child_rows l r i) (text_of i)) _ b.1 in
      let d = or_fine (inside j l p (r ∷ seen) k) (Ok tt) c.1 in
      let op = opened j l (kind_of l p) (kind_of l r) p seen r ats o g (sym (opening_is j l p seen r ats o) ∙ a.0) in
      let f = child_found l p n r refl op.row in
      let after = accepts k p (r ∷ seen) h g d.0 in
      kinds (kind_of l r)
      (λ y. as_node p seen o n ats i k f.its f.name op after y (accepts i r [] op.row y b.0) c.0)
      (λ q y. as_value p seen o n ats i k f.its f.name op after q y (leaf_plain i r [] q op.row y b.0) c.0)

  -- ---- back: from a content to no violation

  plain_leaf : (i : Inside) (p : ℕ) (seen : List ℕ) → is_group (kind_of l p) ≡ false → plain i ≡ true → inside j l p seen i ≡ Ok tt
  unfolding inside
  plain_leaf nothing_inside p seen e z = refl
  plain_leaf (character o x k) p seen e z = rw (e, plain_leaf k p seen e z)
  plain_leaf (element o n ats i k) p seen e z = absurd (false≢true z)

  some_text : (f : Leaf) (u cs : List ℕ) (v : t.A) → LeafOk f → t.Spelt f u cs v → is_empty cs ≡ false
  some_text f u [] v h e = absurd (y.none f u v h e)
  some_text f u (x ∷ cs) v h e = refl

  record Leafy (k : Kind) (r o : ℕ) (ats : Attrs) (rs : List ℕ) (i : Inside) : Type 0 where
    attrs : attrs_ok j k ats ≡ true
    plainly : plain i ≡ true
    no_group : is_group k ≡ false
    shuts : closing j l k r o ats rs (text_of i) ≡ Ok tt

  leafy : (k : Kind) (r o : ℕ) (ats : Attrs) (rs : List ℕ) (i : Inside) (v : t.A) → KindOk k → Spells t l k ats i v → Leafy k r o ats rs i
  leafy group r o ats rs i v h s = absurd s
  leafy choice r o ats rs i v h s = absurd s
  leafy (leaf f) r o ats rs i v h s =
      record { attrs = (d.attrs f ats).1 s.1; plainly = s.0; no_group = refl; shuts = rw (some_text f (currency_given ats) (text_of i) v h s.2, (d.value f (currency_given ats) (text_of i)).1 (v, s.2)) }

  record Back (p : ℕ) (seen : List ℕ) (i : Inside) (rs : List ℕ) : Type 0 where
    passes : inside j l p seen i ≡ Ok tt
    rowed : child_rows l p i ≡ rs

  -- one element of row r, its parts and what follows it found good
  module _ (p : ℕ) (seen : List ℕ) (o : ℕ) (n : List ℕ) (ats : Attrs) (i k : Inside) (r : ℕ) (rs : List ℕ) (is : child l p n ≡ r) (pos : 0 < r) (fits : Fits l (kind_of l p) seen r)
      (attrs : attrs_ok j (kind_of l r) ats ≡ true) (within : inside j l r [] i ≡ Ok tt) (close : closing j l (kind_of l r) r o ats (child_rows l r i) (text_of i) ≡ Ok tt) (after : Back p (r ∷ seen) k rs) where
    back_element : Back p seen (element o n ats i k) (r ∷ rs)
    unfolding inside child_rows
    back_element = record {
      passes = subst (λ q. first_of (opening j l p seen q ats o ∷ inside j l q [] i ∷ closing j l (kind_of l q) q o ats (child_rows l q i) (text_of i) ∷ inside j l p (q ∷ seen) k ∷ []) ≡ Ok tt) (sym is)
          (first_of4 (opening j l p seen r ats o) (inside j l r [] i) (closing j l (kind_of l r) r o ats (child_rows l r i) (text_of i)) (inside j l p (r ∷ seen) k)
          (opening_is j l p seen r ats o ∙ opens j l (kind_of l p) (kind_of l r) p seen r ats o (record { row = pos; fits = fits; attrs = attrs })) within close after.passes);
      rowed = ap₂ ◌∷◌ is after.rowed;
    }

  back : (i : Inside) (p : ℕ) (seen : List ℕ) (c : Content t.A) → Denotes t l p i c → Good t.Is l c → Steps l (kind_of l p) seen (rows c) → Back p seen i (rows c)
  unfolding inside child_rows
  back nothing_inside p seen end d g s = record { passes = refl; rowed = refl }
  back nothing_inside p seen (value r v c) d g s = absurd d
  back nothing_inside p seen (node r e c) d g s = absurd d
  back (character o x k) p seen c d g s =
      let b = back k p seen c d.1 g s in
      let z : (is_group (kind_of l p) && not (is_blank x)) ≡ false = rw d.0 (and-false (is_group (kind_of l p))) in
      record { passes = rw (z, b.passes); rowed = b.rowed }
  back (element o n ats i k) p seen end d g s = absurd d
  back (element o n ats i k) p seen (value r v c) d g s =
      let f = leafy (kind_of l r) r o ats (child_rows l r i) i v (w.kinds p r d.0.0) (spells_of t l r ats i v d.1) in
      back_element p seen o n ats i k r (rows c) (child_is l p n w r (record { its = d.0.0; name = d.0.1 })) d.0.0.first s.0 f.attrs (plain_leaf i r [] f.no_group f.plainly) f.shuts
      (back k p (r ∷ seen) c d.2 g.1 s.1)
  back (element o n ats i k) p seen (node r e c) d g s =
      let z = closes j l w (kind_of l r) r o ats (rows e) (text_of i) d.1.0 refl g.0.1 in
      let b = back i r [] e d.2 g.1 z.1 in
      back_element p seen o n ats i k r (rows c) (child_is l p n w r (record { its = d.0.0; name = d.0.1 })) d.0.0.first s.0 (attrs_group j (kind_of l r) ats d.1.0 d.1.1) b.passes
      (subst (λ rs. closing j l (kind_of l r) r o ats rs (text_of i) ≡ Ok tt) (sym b.rowed) z.0) (back k p (r ∷ seen) c d.3 g.2 s.1)

  -- ---- the message

  root_group : is_group (kind_of l 1) ≡ true
  root_group = ap is_group w.root.1

  -- no violation: a content that meets the list, and is the message's
  accept_by : (m : Inside) → OneElement m → first_violation j l m ≡ Ok tt → (c : Content t.A) × Meets t.Is l c × Has t l m c
  unfolding first_violation
  accept_by nothing_inside one z = absurd one
  accept_by (character o x k) one z = absurd one
  accept_by (element o n ats i k) one z =
      let a = or_fine (refuse (not (is_root l n ats)) (table.wrong_root o)) _ z in
      let b = or_fine (inside j l 1 [] i) _ a.1 in
      let c = or_fine (closing j l (kind_of l 1) 1 o ats (child_rows l 1 i) (text_of i)) (Ok tt) b.1 in
      let f = accepts i 1 [] (omega arith) root_group b.0 in
      let k = closed j l w (kind_of l 1) 1 o ats (rows f.content) (text_of i) root_group refl f.steps f.theirs
      (subst (λ rs. closing j l (kind_of l 1) 1 o ats rs (text_of i) ≡ Ok tt) f.rowed c.0) in (
        node 1 f.content end,
        record { root = refl; good = ((root_group, k), f.good, tt) },
        record { root = not-false (is_root l n ats) (refuse_no (not (is_root l n ats)) (table.wrong_root o) a.0); alone = one; kids = f.content; is = refl; parts = f.denotes },
      )

  -- a content that meets the list, and is the message's: no violation
  accepted_by : (m : Inside) (c : Content t.A) → Meets t.Is l c → Has t l m c → first_violation j l m ≡ Ok tt
  unfolding first_violation
  accepted_by nothing_inside c k h = absurd h
  accepted_by (character o x k') c k h = absurd h
  accepted_by (element o n ats i k') c k h =
      let g : Good t.Is l (node 1 h.kids end) = subst (λ x. Good t.Is l x) h.is k.good in
      let z = closes j l w (kind_of l 1) 1 o ats (rows h.kids) (text_of i) root_group refl g.0.1 in
      let b = back i 1 [] h.kids h.parts g.1 z.1 in
      let y = subst (λ rs. closing j l (kind_of l 1) 1 o ats rs (text_of i) ≡ Ok tt) (sym b.rowed) z.0 in
      rw (h.root, b.passes, y)

module _ (t : Types) (y : Spelling t) (l : Listing) (w : WellFormed l) where
  -- nothing is found: a content that meets the list, and is the message's
  pub accept : (m : Inside) → OneElement m → First t l m (Ok tt) → (c : Content t.A) × Meets t.Is l c × Has t l m c
  accept m one f = accept_by t y f.judge f.decides l w m one f.is

  -- a content that meets the list, and is the message's: nothing is found
  pub accepted : (m : Inside) (c : Content t.A) → Meets t.Is l c → Has t l m c → (f : Found) → First t l m f → f ≡ Ok tt
  accepted m c k h f x = sym x.is ∙ accepted_by t y x.judge x.decides l w m c k h

  -- ---- one content

  spells_one : (k : Kind) (ats : Attrs) (i : Inside) (u v : t.A) → KindOk k → Spells t l k ats i u → Spells t l k ats i v → u ≡ v
  spells_one group ats i u v h a b = absurd a
  spells_one choice ats i u v h a b = absurd a
  spells_one (leaf f) ats i u v h a b = y.one f (currency_given ats) (text_of i) u v h a.2 b.2

  no_both : {P : Type 0} (k : Kind) (ats : Attrs) (i : Inside) (u : t.A) → Spells t l k ats i u → is_group k ≡ true → P
  no_both group ats i u s g = absurd s
  no_both choice ats i u s g = absurd s
  no_both (leaf f) ats i u s g = absurd (false≢true g)

  same_row : (p r q : ℕ) (n : List ℕ) → Child l p r × ((row_at l r).name ≡ n) → Child l p q × ((row_at l q).name ≡ n) → r ≡ q
  same_row p r q n a b = w.apart p r q a.0 b.0 (a.1 ∙ sym b.1)

  one_content : (i : Inside) (p : ℕ) (a b : Content t.A) → Denotes t l p i a → Denotes t l p i b → a ≡ b
  one_content nothing_inside p end end d e = refl
  one_content nothing_inside p end (value r v b) d e = absurd e
  one_content nothing_inside p end (node r x b) d e = absurd e
  one_content nothing_inside p (value r v a) b d e = absurd d
  one_content nothing_inside p (node r x a) b d e = absurd d
  one_content (character o x k) p a b d e = one_content k p a b d.1 e.1
  one_content (element o n ats i k) p end b d e = absurd d
  one_content (element o n ats i k) p (value r u a) end d e = absurd e
  one_content (element o n ats i k) p (node r x a) end d e = absurd e
  one_content (element o n ats i k) p (value r u a) (value q v b) d e =
      let z : r ≡ q = same_row p r q n d.0 e.0 in
      let y = spells_one (kind_of l r) ats i u v (w.kinds p r d.0.0) (spells_of t l r ats i u d.1) (subst (λ m. Spells t l (kind_of l m) ats i v) (sym z) (spells_of t l q ats i v e.1)) in
      let x = one_content k p a b d.2 e.2 in cc
  one_content (element o n ats i k) p (value r u a) (node q y b) d e =
      no_both (kind_of l r) ats i u (spells_of t l r ats i u d.1) (subst (λ m. is_group (kind_of l m) ≡ true) (sym (same_row p r q n d.0 e.0)) e.1.0)
  one_content (element o n ats i k) p (node r x a) (value q v b) d e =
      no_both (kind_of l q) ats i v (spells_of t l q ats i v e.1) (subst (λ m. is_group (kind_of l m) ≡ true) (same_row p r q n d.0 e.0) d.1.0)
  one_content (element o n ats i k) p (node r x a) (node q y b) d e =
      let z : r ≡ q = same_row p r q n d.0 e.0 in
      let f = one_content i r x y d.2 (subst (λ m. Denotes t l m i y) (sym z) e.2) in
      let h = one_content k p a b d.3 e.3 in cc

  -- a message has one content
  pub unique : (m : Inside) (a b : Content t.A) → Has t l m a → Has t l m b → a ≡ b
  unique nothing_inside a b h k = absurd h
  unique (character o x k') a b h k = absurd h
  unique (element o n ats i k') a b h k = let z = one_content i 1 h.kids k.kids h.parts k.parts in h.is ∙ ap (λ x. node 1 x end) z ∙ sym k.is
