-- A table of eleven numbers a node that passes a computed test has the nodes of a list. Assumes nothing.
use mathlib.Core.Path.{◌≡◌, refl, sym, ◌∙◌, ap, subst}
use mathlib.Core.Logic.{⊎_elim}
use mathlib.Core.Bool.{Bool, true, false, ◌&&◌, ◌||◌, false≢true}
use mathlib.Core.List.{List, [], ◌∷◌}
use Prim.Native.Nat.{ℕ, zero, suc, ◌+◌, ◌*◌, ◌-◌, ◌/◌, ◌%◌, ◌^◌, ◌<◌}
use native.Mathlib.Omega.{arith}
use lib.Dec.{eqb, ltb, leb}
use lib.ListN.{length, get_or, take, drop}
use lib.Seq.{drop-drop}
use borrow.Author.Tests.{eqb-true, eq-eqb, ltb-true, leb-true}
use Rattle.text.specs.Lists.{Each}
use Rattle.text.specs.Bytes.{is_capital}
use Rattle.text.proofs.Classes.{and_is, or_is}
use Rattle.list.specs.tables.Test.{every}
use Rattle.list.proofs.sound.Sound.{every_is}
use Rattle.list.specs.Listing.{ref, iban, ccy, bool, num, amt, date, dtm, txt, enum, Listing}
use Rattle.file_nodes.proofs.Fitted.{agree, agree_is}
use Rattle.file_nodes.specs.Run.{Sort, over, shut, group, leaf, Node}
use Rattle.file_nodes.specs.Fitting.{coined, given}
use Rattle.file_nodes.specs.Entries.{Entry, entry_at, node_of, node_at}
use Rattle.text.specs.Little.{little}
use Rattle.file_nodes.specs.mirror.Kept.{Inked, Masked, number, after, most, item, Word, Words, Plain, Kept, In, Leading, Tabled}

-- ---- words

abbrev inks : List ℕ → Bool
inks [] = true
inks (y ∷ ys) = (ltb 0 y && ltb y 256) && inks ys

inks_is : (ys : List ℕ) → inks ys ≡ true → Each Inked ys
inks_is [] e = tt
inks_is (y ∷ ys) e =
    let a = and_is (ltb 0 y && ltb y 256) (inks ys) e in
    let b = and_is (ltb 0 y) (ltb y 256) a.0 in
    ((ltb-true 0 y b.0, ltb-true y 256 b.1), inks_is ys a.1)

abbrev mask_test : List ℕ → ℕ → List ℕ → Bool
mask_test d j w =
    eqb (get_or d j 0) (little (take 8 w)) && (eqb (get_or d (j + 1) 0) (256 ^ length (take 8 w) - 1) && (eqb (get_or d (j + 2) 0) (little (drop 8 w))
    && (eqb (get_or d (j + 3) 0) (256 ^ length (drop 8 w) - 1) && (leb (length w) 16 && inks w))))

mask_is : (d : List ℕ) (j : ℕ) (w : List ℕ) → mask_test d j w ≡ true → Masked d j w
mask_is d j w e =
    let p = eqb (get_or d j 0) (little (take 8 w)) in
    let q = eqb (get_or d (j + 1) 0) (256 ^ length (take 8 w) - 1) in
    let r = eqb (get_or d (j + 2) 0) (little (drop 8 w)) in
    let t = eqb (get_or d (j + 3) 0) (256 ^ length (drop 8 w) - 1) in
    let a = and_is p (q && (r && (t && (leb (length w) 16 && inks w)))) e in
    let b = and_is q (r && (t && (leb (length w) 16 && inks w))) a.1 in
    let c = and_is r (t && (leb (length w) 16 && inks w)) b.1 in
    let f = and_is t (leb (length w) 16 && inks w) c.1 in
    let g = and_is (leb (length w) 16) (inks w) f.1 in
    record {
      first = eqb-true (get_or d j 0) (little (take 8 w)) a.0;
      first_mask = eqb-true (get_or d (j + 1) 0) (256 ^ length (take 8 w) - 1) b.0;
      second = eqb-true (get_or d (j + 2) 0) (little (drop 8 w)) c.0;
      second_mask = eqb-true (get_or d (j + 3) 0) (256 ^ length (drop 8 w) - 1) f.0;
      short = leb-true (length w) 16 g.0;
      inked = inks_is w g.1;
    }

abbrev word_test : List (List ℕ) → ℕ → Bool
word_test [] n = false
word_test (w ∷ ws) n = (eqb n (little w) && (eqb (length w) 4 && every is_capital w)) || word_test ws n

word_is : (ws : List (List ℕ)) (n : ℕ) → word_test ws n ≡ true → Word ws n
word_is [] n e = absurd (false≢true e)
word_is (w ∷ ws) n e = ⊎_elim
    (λ h.
    let a = and_is (eqb n (little w)) (eqb (length w) 4 && every is_capital w) h in
    let b = and_is (eqb (length w) 4) (every is_capital w) a.1 in
    record { place = 0; within = omega arith; four = eqb-true (length w) 4 b.0; capitals = every_is is_capital w b.1; is = eqb-true n (little w) a.0 })
    (λ h. let r = word_is ws n h in record { place = suc r.place; within = omega (arith, r.within); four = r.four; capitals = r.capitals; is = r.is })
    (or_is (eqb n (little w) && (eqb (length w) 4 && every is_capital w)) (word_test ws n) e)

abbrev four_test : List (List ℕ) → ℕ → ℕ → Bool
four_test ws x y = (word_test ws (x % 4294967296) && word_test ws (x / 4294967296)) && (word_test ws (y % 4294967296) && word_test ws (y / 4294967296))

four_is : (ws : List (List ℕ)) (x y : ℕ) → four_test ws x y ≡ true → Word ws (x % 4294967296) × Word ws (x / 4294967296) × Word ws (y % 4294967296) × Word ws (y / 4294967296)
four_is ws x y e =
    let p = word_test ws (x % 4294967296) in
    let q = word_test ws (x / 4294967296) in
    let r = word_test ws (y % 4294967296) in
    let t = word_test ws (y / 4294967296) in
    let a = and_is (p && q) (r && t) e in
    let b = and_is p q a.0 in
    let c = and_is r t a.1 in
    (word_is ws (x % 4294967296) b.0, word_is ws (x / 4294967296) b.1, word_is ws (y % 4294967296) c.0, word_is ws (y / 4294967296) c.1)

abbrev words_test : Sort → List ℕ → Bool
words_test over d = true
words_test shut d = true
words_test group d = true
words_test (leaf ref h) d = true
words_test (leaf iban h) d = true
words_test (leaf ccy h) d = true
words_test (leaf bool h) d = true
words_test (leaf num h) d = true
words_test (leaf amt h) d = true
words_test (leaf date h) d = true
words_test (leaf dtm h) d = true
words_test (leaf (txt k) h) d = true
words_test (leaf (enum ws) h) d = four_test ws (get_or d 9 0) (get_or d 10 0)

words_is : (s : Sort) (d : List ℕ) → words_test s d ≡ true → Words s d
words_is over d e = tt
words_is shut d e = tt
words_is group d e = tt
words_is (leaf ref h) d e = tt
words_is (leaf iban h) d e = tt
words_is (leaf ccy h) d e = tt
words_is (leaf bool h) d e = tt
words_is (leaf num h) d e = tt
words_is (leaf amt h) d e = tt
words_is (leaf date h) d e = tt
words_is (leaf dtm h) d e = tt
words_is (leaf (txt k) h) d e = tt
words_is (leaf (enum ws) h) d e = four_is ws (get_or d 9 0) (get_or d 10 0) e

abbrev plain_test : Sort → List ℕ → Bool
plain_test over w = leb (length w) 16
plain_test shut w = true
plain_test group w = true
plain_test (leaf f h) w = leb (length w) 16 && agree (coined f) (given h)

plain_is : (s : Sort) (w : List ℕ) → plain_test s w ≡ true → Plain s w
plain_is over w e = leb-true (length w) 16 e
plain_is shut w e = tt
plain_is group w e = tt
plain_is (leaf f h) w e = let a = and_is (leb (length w) 16) (agree (coined f) (given h)) e in (leb-true (length w) 16 a.0, agree_is (coined f) (given h) a.1)

-- ---- a node's numbers

-- of the one number that has many
abbrev parts_test : ℕ → Node → Bool
parts_test i x =
    eqb (i % 256) (length (take 16 x.tag)) && (eqb (i / 256 % 256) (number x.sort x.tag) && (eqb (i / 65536 % 256) x.next && (eqb (i / 16777216 % 256) x.other
    && (eqb (i / 4294967296 % 256) (most x.sort) && (eqb (i / 1099511627776 % 256) x.row && (eqb (i / 281474976710656 % 256) (length (after x.sort x)) && eqb (i / 72057594037927936 % 256) (item x.sort)))))))

abbrev kept_test : List ℕ → Node → Bool
kept_test d x = (ltb 0 (length x.tag) && mask_test d 0 (take 16 x.tag)) && (mask_test d 5 (after x.sort x) && (parts_test (get_or d 4 0) x && (words_test x.sort d && plain_test x.sort x.tag)))

kept_is : (d : List ℕ) (x : Node) → kept_test d x ≡ true → Kept d x
kept_is d x e =
    let i = get_or d 4 0 in
    let t1 = eqb (i % 256) (length (take 16 x.tag)) in
    let t2 = eqb (i / 256 % 256) (number x.sort x.tag) in
    let t3 = eqb (i / 65536 % 256) x.next in
    let t4 = eqb (i / 16777216 % 256) x.other in
    let t5 = eqb (i / 4294967296 % 256) (most x.sort) in
    let t6 = eqb (i / 1099511627776 % 256) x.row in
    let t7 = eqb (i / 281474976710656 % 256) (length (after x.sort x)) in
    let t8 = eqb (i / 72057594037927936 % 256) (item x.sort) in
    let a = and_is (ltb 0 (length x.tag) && mask_test d 0 (take 16 x.tag)) (mask_test d 5 (after x.sort x) && (parts_test i x && (words_test x.sort d && plain_test x.sort x.tag))) e in
    let f = and_is (ltb 0 (length x.tag)) (mask_test d 0 (take 16 x.tag)) a.0 in
    let b = and_is (mask_test d 5 (after x.sort x)) (parts_test i x && (words_test x.sort d && plain_test x.sort x.tag)) a.1 in
    let c = and_is (parts_test i x) (words_test x.sort d && plain_test x.sort x.tag) b.1 in
    let g = and_is (words_test x.sort d) (plain_test x.sort x.tag) c.1 in
    let p1 = and_is t1 (t2 && (t3 && (t4 && (t5 && (t6 && (t7 && t8)))))) c.0 in
    let p2 = and_is t2 (t3 && (t4 && (t5 && (t6 && (t7 && t8))))) p1.1 in
    let p3 = and_is t3 (t4 && (t5 && (t6 && (t7 && t8)))) p2.1 in
    let p4 = and_is t4 (t5 && (t6 && (t7 && t8))) p3.1 in
    let p5 = and_is t5 (t6 && (t7 && t8)) p4.1 in
    let p6 = and_is t6 (t7 && t8) p5.1 in
    let p7 = and_is t7 t8 p6.1 in
    record {
      some = ltb-true 0 (length x.tag) f.0;
      tag = mask_is d 0 (take 16 x.tag) f.1;
      end = mask_is d 5 (after x.sort x) b.0;
      long = eqb-true (i % 256) (length (take 16 x.tag)) p1.0;
      sort = eqb-true (i / 256 % 256) (number x.sort x.tag) p2.0;
      next = eqb-true (i / 65536 % 256) x.next p3.0;
      other = eqb-true (i / 16777216 % 256) x.other p4.0;
      most = eqb-true (i / 4294967296 % 256) (most x.sort) p5.0;
      row = eqb-true (i / 1099511627776 % 256) x.row p6.0;
      end_long = eqb-true (i / 281474976710656 % 256) (length (after x.sort x)) p7.0;
      item = eqb-true (i / 72057594037927936 % 256) (item x.sort) p7.1;
      words = words_is x.sort d g.0;
      plain = plain_is x.sort x.tag g.1;
    }

-- ---- where it leads, among m nodes

abbrev is_over : Sort → Bool
is_over over = true
is_over shut = false
is_over group = false
is_over (leaf f h) = false

over_is : (s : Sort) → is_over s ≡ true → s ≡ over
over_is over e = refl
over_is shut e = absurd (false≢true e)
over_is group e = absurd (false≢true e)
over_is (leaf f h) e = absurd (false≢true e)

abbrev lead_test : ℕ → ℕ → Node → Bool
lead_test m n x = agree (eqb x.next 0) (is_over x.sort) && ((eqb x.next 0 || ltb x.next m) && (eqb x.other 0 || (ltb n x.other && ltb x.other m)))

within : (t : List ℕ) (m n : ℕ) → length t ≡ 11 * m → 0 < n → n < m → In t n
within t m n e h g = (h, omega (arith, e))

lead_is : (t : List ℕ) (m n : ℕ) (x : Node) → length t ≡ 11 * m → lead_test m n x ≡ true → Leading t x n
lead_is t m n x e h =
    let a = and_is (agree (eqb x.next 0) (is_over x.sort)) ((eqb x.next 0 || ltb x.next m) && (eqb x.other 0 || (ltb n x.other && ltb x.other m))) h in
    let b = and_is (eqb x.next 0 || ltb x.next m) (eqb x.other 0 || (ltb n x.other && ltb x.other m)) a.1 in
    let g = agree_is (eqb x.next 0) (is_over x.sort) a.0 in
    record {
      over = ((λ z. over_is x.sort (sym g ∙ eq-eqb x.next 0 z)), (λ z. eqb-true x.next 0 (g ∙ ap is_over z)));
      next = λ z. ⊎_elim (λ i. absurd (omega (arith, eqb-true x.next 0 i))) (λ i. within t m x.next e z (ltb-true x.next m i)) (or_is (eqb x.next 0) (ltb x.next m) b.0);
      other = λ z. ⊎_elim (λ i. absurd (omega (arith, eqb-true x.other 0 i)))
          (λ i. let c = and_is (ltb n x.other) (ltb x.other m) i in (ltb-true n x.other c.0, within t m x.other e z (ltb-true x.other m c.1)))
          (or_is (eqb x.other 0) (ltb n x.other && ltb x.other m) b.1);
    }

-- ---- the table

module _ (l : Listing) (m : ℕ) where
  -- from node n on, whose numbers d begins with
  abbrev nodes_test : List Entry → ℕ → List ℕ → Bool
  nodes_test [] n d = true
  nodes_test (e ∷ es) n d = (kept_test d (node_of l e) && lead_test m n (node_of l e)) && nodes_test es (suc n) (drop 11 d)

  pub record At (t d : List ℕ) (n : ℕ) (x : Node) : Type 0 where
    pub kept : Kept d x
    pub leads : Leading t x n

  nodes_at : (t : List ℕ) → length t ≡ 11 * m → (es : List Entry) (n : ℕ) (d : List ℕ) → nodes_test es n d ≡ true → (i : ℕ) → i < length es → At t (drop (11 * i) d) (n + i) (node_of l (entry_at es i))
  nodes_at t z [] n d e i h = absurd (omega arith)
  nodes_at t z (x ∷ es) n d e zero h =
      let a = and_is (kept_test d (node_of l x) && lead_test m n (node_of l x)) (nodes_test es (suc n) (drop 11 d)) e in
      let b = and_is (kept_test d (node_of l x)) (lead_test m n (node_of l x)) a.0 in
      let q : n ≡ n + 0 = omega arith in
      subst (λ (k : ℕ). At t d k (node_of l x)) q (record { kept = kept_is d (node_of l x) b.0; leads = lead_is t m n (node_of l x) z b.1 })
  nodes_at t z (x ∷ es) n d e (suc i) h =
      let a = and_is (kept_test d (node_of l x) && lead_test m n (node_of l x)) (nodes_test es (suc n) (drop 11 d)) e in
      let p : 11 + 11 * i ≡ 11 * suc i = omega arith in
      let q : suc n + i ≡ n + suc i = omega arith in
      subst (λ (k : ℕ). At t (drop (11 * suc i) d) k (node_of l (entry_at es i))) q
      (subst (λ (y : List ℕ). At t y (suc n + i) (node_of l (entry_at es i))) (drop-drop (11 * i) 11 d ∙ ap (λ (k : ℕ). drop k d) p) (nodes_at t z es (suc n) (drop 11 d) a.1 i (omega arith)))

-- from node 1 on
abbrev pub table_test : Listing → List Entry → List ℕ → Bool
table_test l [] t = false
table_test l (e ∷ es) t = eqb (length t) (11 * suc (length es)) && nodes_test l (suc (length es)) es 1 (drop 11 t)

table_at : (l : Listing) (es : List Entry) (t : List ℕ) → table_test l es t ≡ true → (n : ℕ) → In t n → At l (length es) t (drop (11 * n) t) n (node_at l es n)
table_at l [] t e n h = absurd (false≢true e)
table_at l (x ∷ es) t e zero h = absurd (omega (arith, h.0))
table_at l (x ∷ es) t e (suc n) h =
    let a = and_is (eqb (length t) (11 * suc (length es))) (nodes_test l (suc (length es)) es 1 (drop 11 t)) e in
    let z = eqb-true (length t) (11 * suc (length es)) a.0 in
    let p : 11 + 11 * n ≡ 11 * suc n = omega arith in
    let q : 1 + n ≡ suc n = omega arith in
    subst (λ (k : ℕ). At l (suc (length es)) t (drop (11 * suc n) t) k (node_of l (entry_at es n))) q
    (subst (λ (y : List ℕ). At l (suc (length es)) t y (1 + n) (node_of l (entry_at es n))) (drop-drop (11 * n) 11 t ∙ ap (λ (k : ℕ). drop k t) p)
    (nodes_at l (suc (length es)) t z es 1 (drop 11 t) a.1 n (omega (arith, h.1, z))))

pub tabled : (l : Listing) (es : List Entry) (t : List ℕ) → table_test l es t ≡ true → Tabled t (node_at l es)
tabled l es t e = record { kept = λ n h. (table_at l es t e n h).kept; leads = λ n h. (table_at l es t e n h).leads }
