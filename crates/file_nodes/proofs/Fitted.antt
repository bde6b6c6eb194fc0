-- Nodes that pass a computed test say their list. Assumes nothing.
use mathlib.Core.Path.{◌≡◌, refl, sym, ◌∙◌, ap, subst}
use mathlib.Core.Logic.{inl, inr, ⊎_elim}
use mathlib.Core.Bool.{Bool, true, false, cond, ◌&&◌, ◌||◌, not, false≢true}
use mathlib.Core.List.{List, [], ◌∷◌}
use mathlib.Core.Option.{Option, none, some}
use Prim.Native.Nat.{ℕ, zero, suc, ◌-◌}
use native.Mathlib.Omega.{arith}
use lib.Dec.{eqb, ltb, leb}
use lib.ListN.{get_or}
use borrow.Author.Tests.{eqb-true, eq-eqb, ltb-true, leb-true}
use Rattle.text_characters.specs.Pieces.{greater}
use Rattle.text.specs.Bytes.{is_name_start, is_name_part}
use Rattle.text.proofs.Classes.{and_is, or_is, every, passes}
use Rattle.list.specs.Listing.{Kind, choice, Rule, both, Listing, size, row_at, is_group, is_choice}
use Rattle.list.specs.Listing as list
use Rattle.list.specs.tables.Test.{begins}
use Rattle.list.proofs.sound.Sound.{begins_is}
use Rattle.xml.specs.House.{Quote}
use Rattle.image.specs.mirror.Follow.{repeats, parent_of, count_of, kind_of, paired, ruled, due, Clear, Fits, Shut}
use Rattle.file_nodes.specs.Run.{Sort, over, shut, group, Node}
use Rattle.file_nodes.specs.Fitting.{coined, given, front, opening, closing, Enters, Fit, NodesFit}
use Rattle.file_nodes.specs.Entries.{Form, opens, closes, Entry, no_entry, entry_at, open_sort, sort_of, group_of, node_of, node_at}

-- ---- tests over a list

abbrev has : ℕ → List ℕ → Bool
has x [] = false
has x (y ∷ ys) = eqb x y || has x ys

abbrev all_in : (ℕ → Bool) → List ℕ → Bool
all_in f [] = true
all_in f (x ∷ xs) = f x && all_in f xs

all_in_lem : (f : ℕ → Bool) (xs : List ℕ) → all_in f xs ≡ true → (x : ℕ) → has x xs ≡ true → f x ≡ true
all_in_lem f [] e x h = absurd (false≢true h)
all_in_lem f (y ∷ ys) e x h =
    let a = and_is (f y) (all_in f ys) e in
    ⊎_elim (λ z. subst (λ (w : ℕ). f w ≡ true) (sym (eqb-true x y z)) a.0) (λ z. all_in_lem f ys a.1 x z) (or_is (eqb x y) (has x ys) h)

abbrev unless : Bool → Bool → Bool
unless a b = cond a b true

unless_is : (a b : Bool) → unless a b ≡ true → a ≡ true → b ≡ true
unless_is true b e h = e
unless_is false b e h = absurd (false≢true h)

not_is : (b : Bool) → not b ≡ true → b ≡ false
not_is true e = absurd (false≢true e)
not_is false e = refl

abbrev pub agree : Bool → Bool → Bool
agree true b = b
agree false b = not b

pub agree_is : (a b : Bool) → agree a b ≡ true → a ≡ b
agree_is true b e = sym e
agree_is false b e = sym (not_is b e)

abbrev mates : List Rule → ℕ → ℕ → Bool
mates [] q x = true
mates (both g a b ∷ rs) q x = unless (eqb x b) (eqb q a) && mates rs q x

mates_is : (rs : List Rule) (q x : ℕ) → mates rs q x ≡ true → (a : ℕ) → paired rs a x ≡ true → q ≡ a
mates_is [] q x e a h = absurd (false≢true h)
mates_is (both g c d ∷ rs) q x e a h =
    let w = and_is (unless (eqb x d) (eqb q c)) (mates rs q x) e in
    ⊎_elim
    (λ z. let y = and_is (eqb a c) (eqb x d) z in eqb-true q c (unless_is (eqb x d) (eqb q c) w.0 y.1) ∙ sym (eqb-true a c y.0))
    (λ z. mates_is rs q x w.1 a z)
    (or_is (eqb a c && eqb x d) (paired rs a x) h)

choice_is : (k : Kind) → k ≡ choice → is_choice k ≡ true
choice_is k e = ap is_choice e

module _ (l : Listing) where
  abbrev clear_test : ℕ → ℕ → ℕ → Bool
  clear_test p q x = every (λ (s : ℕ). unless (eqb (parent_of l s) p) (not (due l q s))) (suc q) (x - suc q)

  clear_is : (p q x : ℕ) → clear_test p q x ≡ true → Clear l p q x
  clear_is p q x e s c h g =
      not_is (due l q s) (unless_is (eqb (parent_of l s) p) (not (due l q s))
      (passes (λ (s : ℕ). unless (eqb (parent_of l s) p) (not (due l q s))) (suc q) (x - suc q) e s (omega arith) (omega arith)) (eq-eqb (parent_of l s) p c.parent))

  abbrev shut_test : ℕ → ℕ → Bool
  shut_test p q = ltb 0 q && clear_test p q (suc (size l))

  shut_is : (p q : ℕ) → shut_test p q ≡ true → Shut l p q
  shut_is p q e = let a = and_is (ltb 0 q) (clear_test p q (suc (size l))) e in record { some = ltb-true 0 q a.0; clear = clear_is p q (suc (size l)) a.1 }

  abbrev order_test : ℕ → ℕ → Bool
  order_test q x = ltb q x || (eqb q x && repeats (count_of l x))

  abbrev place_test : ℕ → ℕ → Bool
  place_test p x = ltb 0 x && (leb x (size l) && eqb (parent_of l x) p)

  abbrev rest_test : ℕ → ℕ → ℕ → Bool
  rest_test p q x = clear_test p q x && mates l.rules q x

  abbrev fits_test : ℕ → ℕ → ℕ → Bool
  fits_test p q x = place_test p x && (unless (is_choice (kind_of l p)) (eqb q 0) && (order_test q x && rest_test p q x))

  fits_is : (p q x : ℕ) → fits_test p q x ≡ true → Fits l p q x
  unfolding ruled
  fits_is p q x e =
      let a = and_is (place_test p x) (unless (is_choice (kind_of l p)) (eqb q 0) && (order_test q x && rest_test p q x)) e in
      let b = and_is (ltb 0 x) (leb x (size l) && eqb (parent_of l x) p) a.0 in
      let c = and_is (leb x (size l)) (eqb (parent_of l x) p) b.1 in
      let d = and_is (unless (is_choice (kind_of l p)) (eqb q 0)) (order_test q x && rest_test p q x) a.1 in
      let f = and_is (order_test q x) (rest_test p q x) d.1 in
      let g = and_is (clear_test p q x) (mates l.rules q x) f.1 in
      record {
        child = record { first = ltb-true 0 x b.0; last = leb-true x (size l) c.0; parent = eqb-true (parent_of l x) p c.1 };
        first = λ h. eqb-true q 0 (unless_is (is_choice (kind_of l p)) (eqb q 0) d.0 (choice_is (kind_of l p) h));
        order = ⊎_elim (λ z. inl (ltb-true q x z)) (λ z. let y = and_is (eqb q x) (repeats (count_of l x)) z in inr (eqb-true q x y.0, y.1)) (or_is (ltb q x) (eqb q x && repeats (count_of l x)) f.0);
        clear = clear_is p q x g.0;
        mate = mates_is l.rules q x g.1;
      }

  abbrev enters_test : ℕ → ℕ → ℕ → Bool
  enters_test p q r = fits_test p q r && begins is_name_start is_name_part (row_at l r).name

  enters_is : (p q r : ℕ) → enters_test p q r ≡ true → Enters l p q r
  enters_is p q r e =
      let a = and_is (fits_test p q r) (begins is_name_start is_name_part (row_at l r).name) e in
      record { fits = fits_is p q r a.0; name = begins_is is_name_start is_name_part (row_at l r).name a.1 }

  module _ (es : List Entry) where
    abbrev pub may_test : ℕ → ℕ → ℕ → Bool
    may_test n p q = eqb (group_of l (entry_at es n).form (entry_at es n).row) p && has q (entry_at es n).last

    -- node n may be met in an element of row p after its child of row q
    pub record May (n p q : ℕ) : Type 0 where
      pub is : may_test n p q ≡ true

    abbrev open_test : Kind → Option Quote → ℕ → ℕ → Bool
    open_test list.group h r n = not (given h) && (ltb 1 r && may_test n r 0)
    open_test list.choice h r n = not (given h) && (ltb 1 r && may_test n r 0)
    open_test (list.leaf f) h r n = agree (coined f) (given h) && may_test n (parent_of l r) r

    abbrev form_test : Form → ℕ → ℕ → ℕ → Bool
    form_test (opens h) r n q = enters_test (parent_of l r) q r && open_test (row_at l r).kind h r n
    form_test closes r n q = shut_test r q && (eqb r 1 || (ltb 1 r && may_test n (parent_of l r) r))

    abbrev entry_test : Entry → ℕ → Bool
    entry_test e q = form_test e.form e.row e.next q && (eqb e.other 0 || may_test e.other (group_of l e.form e.row) q)

    abbrev pub test : List Entry → Bool
    test [] = true
    test (e ∷ xs) = all_in (entry_test e) e.last && test xs

    test_at : (xs : List Entry) → test xs ≡ true → (n q : ℕ) → has q (get_or xs n no_entry).last ≡ true → entry_test (get_or xs n no_entry) q ≡ true
    test_at [] e n q h = absurd (false≢true h)
    test_at (x ∷ xs) e zero q h = all_in_lem (entry_test x) x.last (and_is (all_in (entry_test x) x.last) (test xs) e).0 q h
    test_at (x ∷ xs) e (suc n) q h = test_at xs (and_is (all_in (entry_test x) x.last) (test xs) e).1 n q h

    front_none : (h : Option Quote) → not (given h) ≡ true → front h ≡ greater ∷ []
    front_none none e = refl
    front_none (some q) e = absurd (false≢true e)

    abbrev made : Sort → Option Quote → ℕ → ℕ → ℕ → Node
    made s h r n o = record { tag = opening l r (front h); sort = s; row = r; next = n; other = o; close = closing l r }

    group_fit : (s : Sort) (h : Option Quote) (r n o q : ℕ) → is_group (row_at l r).kind ≡ true → Enters l (parent_of l r) q r → (not (given h) && (ltb 1 r && may_test n r 0)) ≡ true → Fit l May group (made s h r n o) (parent_of l r) q
    group_fit s h r n o q g f t =
        let a = and_is (not (given h)) (ltb 1 r && may_test n r 0) t in
        let b = and_is (ltb 1 r) (may_test n r 0) a.1 in
        (ltb-true 1 r b.0, f, g, ap (opening l r) (front_none h a.0), record { is = b.1 })

    open_fit : (k : Kind) (s : Sort) (h : Option Quote) (r n o q : ℕ) → (row_at l r).kind ≡ k → Enters l (parent_of l r) q r → open_test k h r n ≡ true → Fit l May (open_sort k h) (made s h r n o) (parent_of l r) q
    open_fit list.group s h r n o q e f t = group_fit s h r n o q (ap is_group e) f t
    open_fit list.choice s h r n o q e f t = group_fit s h r n o q (ap is_group e) f t
    open_fit (list.leaf g) s h r n o q e f t =
        let a = and_is (agree (coined g) (given h)) (may_test n (parent_of l r) r) t in
        (e, f, agree_is (coined g) (given h) a.0, refl, refl, record { is = a.1 })

    close_fit : (b : Bool) (r n q : ℕ) (x : Node) → eqb r 1 ≡ b → x.tag ≡ closing l r → x.next ≡ n → Shut l r q → (b || (ltb 1 r && may_test n (parent_of l r) r)) ≡ true → Fit l May (cond b over shut) x r q
    close_fit true r n q x e i j f t = (eqb-true r 1 e, f, i)
    close_fit false r n q x e i j f t =
        let a = and_is (ltb 1 r) (may_test n (parent_of l r) r) t in
        (ltb-true 1 r a.0, f, i, subst (λ (z : ℕ). May z (parent_of l r) r) (sym j) (record { is = a.1 }))

    form_fit : (m : Form) (r n o q : ℕ) (bs : List ℕ) → form_test m r n q ≡ true → Fit l May (sort_of l m r) (node_of l (record { form = m; row = r; next = n; other = o; last = bs })) (group_of l m r) q
    form_fit (opens h) r n o q bs t =
        let a = and_is (enters_test (parent_of l r) q r) (open_test (row_at l r).kind h r n) t in
        open_fit (row_at l r).kind (open_sort (row_at l r).kind h) h r n o q refl (enters_is (parent_of l r) q r a.0) a.1
    form_fit closes r n o q bs t =
        let a = and_is (shut_test r q) (eqb r 1 || (ltb 1 r && may_test n (parent_of l r) r)) t in
        close_fit (eqb r 1) r n q (node_of l (record { form = closes; row = r; next = n; other = o; last = bs })) refl refl refl (shut_is r q a.0) a.1

    pub tested : test es ≡ true → NodesFit l May (node_at l es)
    tested t = record {
      fit = λ n p q m.
          let e = entry_at es n in
          let a = and_is (eqb (group_of l e.form e.row) p) (has q e.last) m.is in
          let b = and_is (form_test e.form e.row e.next q) (eqb e.other 0 || may_test e.other (group_of l e.form e.row) q) (test_at es t n q a.1) in
          subst (λ (z : ℕ). Fit l May (node_at l es n).sort (node_at l es n) z q) (eqb-true (group_of l e.form e.row) p a.0) (form_fit e.form e.row e.next e.other q e.last b.0);
      handed = λ n p q m h.
          let e = entry_at es n in
          let a = and_is (eqb (group_of l e.form e.row) p) (has q e.last) m.is in
          let b = and_is (form_test e.form e.row e.next q) (eqb e.other 0 || may_test e.other (group_of l e.form e.row) q) (test_at es t n q a.1) in
          ⊎_elim (λ z. absurd (omega (arith, eqb-true e.other 0 z)))
          (λ z. record { is = subst (λ (w : ℕ). may_test e.other w q ≡ true) (eqb-true (group_of l e.form e.row) p a.0) z })
          (or_is (eqb e.other 0) (may_test e.other (group_of l e.form e.row) q) b.1);
    }
