-- The nodes of each list are as the pass that writes takes them: one computed test for each. Assumes nothing.
use mathlib.Core.Path.{◌≡◌, refl, sym, ◌∙◌, ap, ap₂, subst}
use mathlib.Core.Bool.{Bool, true, ◌&&◌, ◌||◌}
use mathlib.Core.Logic.{⊎_elim}
use mathlib.Core.List.{List, [], ◌∷◌, ◌++◌}
use mathlib.Core.Option.{none}
use Prim.Native.Nat.{ℕ, zero, suc, ◌+◌, ◌*◌, ◌≤◌, ◌<◌}
use native.Mathlib.Omega.{arith}
use native.Mathlib.Decide.{dec_lt}
use lib.Dec.{eqb, leb}
use lib.ListN.{length, get_or, drop}
use lib.Seq.{drop-drop, get_or-drop}
use borrow.Author.Tests.{eqb-true, leb-true}
use Rattle.text.specs.Bytes.{is_capital}
use Rattle.text.specs.Lists.{All}
use Rattle.text.proofs.Classes.{and_is, or_is}
use Rattle.text_characters.specs.Pieces.{greater, solidus}
use Rattle.list.specs.Listing.{ref, iban, ccy, bool, num, amt, date, dtm, txt, enum, Listing, row_at}
use Rattle.list.specs.tables.Test.{every}
use Rattle.list_house.specs.House.{house, report, stored_house, stored_report}
use Rattle.file_nodes.specs.Run.{Sort, over, shut, group, leaf, Node}
use Rattle.file_nodes.specs.Entries.{Entry, entry_at, tag_of, node_of, node_at}
use Rattle.file_nodes.specs.mirror.Nodes.{house_entries, report_entries}
use Rattle.file_nodes.specs.mirror.Tables.{house_table, report_table}
use Rattle.text.specs.Little.{little}
use Rattle.file_nodes.specs.mirror.Kept.{Tabled}
use Rattle.file_fill.specs.mirror.Fills.{word_of, word_in, Ways}
use Rattle.list.proofs.sound.Sound.{every_is}
use Rattle.file_nodes.proofs.House.{tagged}

-- ---- words in their order

abbrev placed_test : List (List ℕ) → ℕ → ℕ → ℕ → Bool
placed_test [] a b m = true
placed_test (w ∷ ws) a b m = (eqb (length w) 4 && (every is_capital w && eqb (word_of a b (little w)) m)) && placed_test ws a b (suc m)

placed_at : (ws : List (List ℕ)) (a b m : ℕ) → placed_test ws a b m ≡ true → (i : ℕ) → i < length ws
    → (length (get_or ws i []) ≡ 4) × All is_capital (get_or ws i []) × (word_of a b (little (get_or ws i [])) ≡ m + i)
placed_at [] a b m e i h = absurd (omega arith)
placed_at (w ∷ ws) a b m e zero h =
    let p = and_is (eqb (length w) 4 && (every is_capital w && eqb (word_of a b (little w)) m)) (placed_test ws a b (suc m)) e in
    let q = and_is (eqb (length w) 4) (every is_capital w && eqb (word_of a b (little w)) m) p.0 in
    let r = and_is (every is_capital w) (eqb (word_of a b (little w)) m) q.1 in
    let z : m ≡ m + 0 = omega arith in
    (eqb-true (length w) 4 q.0, every_is is_capital w r.0, eqb-true (word_of a b (little w)) m r.1 ∙ z)
placed_at (w ∷ ws) a b m e (suc i) h =
    let p = and_is (eqb (length w) 4 && (every is_capital w && eqb (word_of a b (little w)) m)) (placed_test ws a b (suc m)) e in
    let r = placed_at ws a b (suc m) p.1 i (omega arith) in
    let z : suc m + i ≡ m + suc i = omega arith in
    (r.0, r.1, r.2 ∙ z)

abbrev sort_test : Sort → ℕ → ℕ → Bool
sort_test over a b = true
sort_test shut a b = true
sort_test group a b = true
sort_test (leaf ref h) a b = true
sort_test (leaf iban h) a b = true
sort_test (leaf ccy h) a b = true
sort_test (leaf bool h) a b = true
sort_test (leaf num h) a b = true
sort_test (leaf amt h) a b = true
sort_test (leaf date h) a b = true
sort_test (leaf dtm h) a b = true
sort_test (leaf (txt k) h) a b = true
sort_test (leaf (enum ws) h) a b = placed_test ws a b 1

-- ---- of every node

abbrev ways_test : Listing → List Entry → List ℕ → Bool
ways_test l [] d = true
ways_test l (e ∷ es) d =
    ((eqb e.other 0 || leb (length (tag_of l e.form e.row)) 16) && sort_test (node_of l e).sort (get_or d 9 0) (get_or d 10 0)) && ways_test l es (drop 11 d)

record Way (x : Node) (d : List ℕ) : Type 0 where
  short : 0 < x.other → length x.tag ≤ 16
  words : sort_test x.sort (get_or d 9 0) (get_or d 10 0) ≡ true

way_at : (l : Listing) (es : List Entry) (d : List ℕ) → ways_test l es d ≡ true → (i : ℕ) → i < length es → Way (node_at l es i) (drop (11 * i) d)
way_at l [] d e i h = absurd (omega arith)
way_at l (x ∷ es) d e zero h =
    let p = and_is ((eqb x.other 0 || leb (length (tag_of l x.form x.row)) 16) && sort_test (node_of l x).sort (get_or d 9 0) (get_or d 10 0)) (ways_test l es (drop 11 d)) e in
    let q = and_is (eqb x.other 0 || leb (length (tag_of l x.form x.row)) 16) (sort_test (node_of l x).sort (get_or d 9 0) (get_or d 10 0)) p.0 in
    record {
      short = λ z. ⊎_elim (λ i. absurd (omega (arith, z, eqb-true x.other 0 i))) (λ i. leb-true (length (tag_of l x.form x.row)) 16 i) (or_is (eqb x.other 0) (leb (length (tag_of l x.form x.row)) 16) q.0);
      words = q.1;
    }
way_at l (x ∷ es) d e (suc i) h =
    let p = and_is ((eqb x.other 0 || leb (length (tag_of l x.form x.row)) 16) && sort_test (node_of l x).sort (get_or d 9 0) (get_or d 10 0)) (ways_test l es (drop 11 d)) e in
    let z : 11 + 11 * i ≡ 11 * suc i = omega arith in
    subst (λ (y : List ℕ). Way (node_at l es i) y) (drop-drop (11 * i) 11 d ∙ ap (λ (k : ℕ). drop k d) z) (way_at l es (drop 11 d) p.1 i (omega arith))

-- a node that is none leads nowhere
past_other : (l : Listing) (es : List Entry) (n : ℕ) → length es ≤ n → (node_at l es n).other ≡ 0
past_other l [] zero h = refl
past_other l [] (suc n) h = refl
past_other l (x ∷ es) zero h = absurd (omega arith)
past_other l (x ∷ es) (suc n) h = past_other l es n (omega arith)

pub ways_are : (l : Listing) (es : List Entry) (t : List ℕ) → Tabled t (node_at l es) → ways_test l es t ≡ true → length t ≡ 11 * length es → Ways t (node_at l es)
ways_are l es t b e z = record {
  tabled = b;
  tags = tagged l es;
  closes = λ n. (solidus ∷ ((row_at l (entry_at es n).row).name ++ (greater ∷ [])), refl);
  short = λ n h. by n h (dec_lt n (length es));
  words = λ n ws i o m w p.
      let q = (way_at l es t e n (omega (arith, i.1, z))).words in
      let a : sort_test (leaf (enum ws) none) (get_or (drop (11 * n) t) 9 0) (get_or (drop (11 * n) t) 10 0) ≡ true = subst (λ (s : Sort). sort_test s (get_or (drop (11 * n) t) 9 0) (get_or (drop (11 * n) t) 10 0) ≡ true) o q in
      let r = placed_at ws (get_or (drop (11 * n) t) 9 0) (get_or (drop (11 * n) t) 10 0) 1 a p.before p.within in
      let s : word_in t (11 * n) (little w) ≡ 1 + p.before =
      ap₂ (λ (u v : ℕ). word_of u v (little w)) (sym (get_or-drop (11 * n) t 9 0)) (sym (get_or-drop (11 * n) t 10 0)) ∙ ap (λ (u : List ℕ). word_of (get_or (drop (11 * n) t) 9 0) (get_or (drop (11 * n) t) 10 0) (little u)) (sym p.is) ∙ r.2 in
      (sym (ap length p.is) ∙ r.0, subst (All is_capital) p.is r.1, s ∙ one p.before ∙ sym p.from);
}
  where
    one : (i : ℕ) → 1 + i ≡ suc i
    one i = omega arith

    by : (n : ℕ) → 0 < (node_at l es n).other → Dec (n < length es) → length (node_at l es n).tag ≤ 16
    by n h (yes i) = (way_at l es t e n i).short h
    by n h (no i) = absurd (omega (arith, h, past_other l es n (omega arith)))

-- ---- for each list

house_ways_test : ways_test house house_entries house_table ≡ true
unfolding house_entries house_table house stored_house row_at little every is_capital
house_ways_test = refl

report_ways_test : ways_test report report_entries report_table ≡ true
unfolding report_entries report_table report stored_report row_at little every is_capital
report_ways_test = refl

house_long : length house_table ≡ 11 * length house_entries
unfolding house_entries house_table
house_long = refl

report_long : length report_table ≡ 11 * length report_entries
unfolding report_entries report_table
report_long = refl

pub house_ways : Tabled house_table (node_at house house_entries) → Ways house_table (node_at house house_entries)
house_ways b = ways_are house house_entries house_table b house_ways_test house_long

pub report_ways : Tabled report_table (node_at report report_entries) → Ways report_table (node_at report report_entries)
report_ways b = ways_are report report_entries report_table b report_ways_test report_long
