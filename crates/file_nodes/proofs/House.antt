-- A run over the nodes of a list of files is a good file of that list: for document 01's types and each list. Assumes nothing.
use mathlib.Core.Path.{◌≡◌, refl, sym, ◌∙◌, ap, ap₂, subst}
use mathlib.Core.Bool.{Bool, true, false, cond}
use mathlib.Core.List.{List, [], ◌∷◌, ◌++◌}
use Prim.Native.Nat.{ℕ, ◌≤◌, ◌+◌}
use native.Mathlib.Omega.{arith}
use lib.Dec.{eqb}
use lib.ListN.{length, drop}
use Rattle.answer.specs.declared.Answer.{Answer}
use Rattle.answer.specs.Table.{accepted}
use Rattle.text.specs.Bytes.{is_capital, is_name_start, is_name_part}
use Rattle.text.specs.Numbers.{big_endian}
use Rattle.text_characters.specs.Pieces.{less, greater, solidus}
use Rattle.list.specs.Listing.{Listing, row_at}
use Rattle.list.specs.Content.{Content}
use Rattle.list.specs.tables.Test.{begins, every}
use Rattle.list.specs.Within.{Among}
use Rattle.list_house.specs.House.{house, report, stored_house, stored_report}
use Rattle.list_house.specs.Lists.{asked}
use Rattle.list_house.proofs.Lists.{each_asked, asked_well, house_byte, report_byte}
use Rattle.value.specs.Value.{Value, text, IsValue}
use Rattle.image.specs.Image.{header}
use Rattle.image.specs.mirror.Follow.{ruled}
use Rattle.file.specs.Instance.{house_kinds}
use Rattle.file.specs.File.{image_of}
use Rattle.file.specs.Checks.{Checks, Filed, imaged}
use Rattle.file.proofs.Chosen.{filed_chosen}
use Rattle.file.proofs.answers.House.{spelling, one_content}
use Rattle.file_nodes.specs.Fitting.{front, NodesFit}
use Rattle.file_nodes.specs.Entries.{Form, opens, closes, Entry, entry_at, tag_of, node_at}
use Rattle.file_nodes.specs.Ran.{Ran}
use Rattle.file_nodes.specs.mirror.Nodes.{house_entries, report_entries}
use Rattle.file_nodes.specs.mirror.Tables.{house_table, report_table}
use Rattle.file_nodes.specs.mirror.ByKind.{entries_of, table_of, nodes_of}
use Rattle.text.specs.Little.{little}
use Rattle.file_nodes.specs.mirror.Kept.{In, Tabled}
use Rattle.file_nodes.proofs.Fitted.{May, test, tested}
use Rattle.file_nodes.proofs.Tabling.{table_test, tabled}
use Rattle.file_nodes.proofs.Inverting.{Tagged}
use Rattle.file_nodes.proofs.Running.{Money}
use Rattle.file_nodes.proofs.Ending.{GoodFile, ran_file, image_long}

-- ---- the nodes say the lists: one computed test for each

-- the nodes of es say the list, and the first is the one after the root's tag
record Say (l : Listing) (es : List Entry) : Type 0 where
  nodes : NodesFit l (May l es) (node_at l es)
  starts : May l es 1 1 0

house_test : test house house_entries house_entries ≡ true
unfolding house_entries house stored_house row_at ruled begins every is_name_start is_name_part
house_test = refl

house_starts : May house house_entries 1 1 0
unfolding house_entries house stored_house row_at
house_starts = record { is = refl }

report_test : test report report_entries report_entries ≡ true
unfolding report_entries report stored_report row_at ruled begins every is_name_start is_name_part
report_test = refl

report_starts : May report report_entries 1 1 0
unfolding report_entries report stored_report row_at
report_starts = record { is = refl }

by_kind : (b n : ℕ) → b ≡ n → entries_of b ≡ entries_of n
by_kind b n e = ap entries_of e

say : (l : Listing) → Among l asked → Say l (entries_of l.byte)
say = each_asked (λ l. Say l (entries_of l.byte))
    (subst (Say house) (sym (by_kind house.byte 1 house_byte)) (record { nodes = tested house house_entries house_test; starts = house_starts }))
    (subst (Say report) (sym (by_kind report.byte 2 report_byte)) (record { nodes = tested report report_entries report_test; starts = report_starts }))

-- ---- what a run is

money : Money house_kinds
money w c = (text w, record { is = IsValue.currency c; wording = refl })

module _ (l : Listing) (i : Among l asked) (s bs : List ℕ) (r : Ran house_kinds l (nodes_of l) 1 s bs) where
  -- THE LANE: a run over the nodes of a list is a good file of it, and what it put is the file's image
  pub ran_good : GoodFile house_kinds l (asked_well l i) s bs
  ran_good = let y = say l i in ran_file house_kinds l (asked_well l i) spelling money (May l (entries_of l.byte)) (nodes_of l) y.nodes 1 y.starts s bs r

  abbrev pub ran_content : Content Value
  ran_content = ran_good.content

  pub ran_filed : Filed s l ran_content
  ran_filed = record { among = i; file = ran_good.file }

  pub ran_image : image_of house_kinds l ran_content ≡ header l ++ (1 ∷ bs)
  ran_image = ran_good.image_is

  pub ran_long : length (image_of house_kinds l ran_content) ≡ 7 + length bs
  ran_long = image_long house_kinds l (asked_well l i) s bs ran_good

  -- so `check` may answer, where it has put the run's bytes
  pub ran_checks : (d : List ℕ) (a : Answer) (d' : List ℕ) → 7 + length bs ≤ length d → a ≡ accepted (7 + length bs)
      → d' ≡ (header l ++ (1 ∷ bs)) ++ drop (7 + length bs) d → Checks s d a d'
  ran_checks d a d' h e f = record {
    list = l;
    among = i;
    chosen = filed_chosen s l ran_content ran_filed;
    answers = imaged ran_content ran_good.file (omega (arith, ran_long, h)) (e ∙ ap accepted (sym ran_long))
        (f ∙ ap₂ (λ (x : List ℕ) (m : ℕ). x ++ drop m d) (sym ran_image) (sym ran_long));
  }

-- a file has one run's bytes
pub ran_one : (l : Listing) (i : Among l asked) (s bs cs : List ℕ) → Ran house_kinds l (nodes_of l) 1 s bs → Ran house_kinds l (nodes_of l) 1 s cs → bs ≡ cs
unfolding header big_endian
ran_one l i s bs cs r q =
    let o = one_content s l l (ran_content l i s bs r) (ran_content l i s cs q) (ran_filed l i s bs r) (ran_filed l i s cs q) in
    let e : header l ++ (1 ∷ bs) ≡ header l ++ (1 ∷ cs) = sym (ran_image l i s bs r) ∙ ap (image_of house_kinds l) o.1 ∙ ran_image l i s cs q in
    ap (drop 7) e

-- every tag of a node begins with `<`, as `Inverting` asks
less_first : (l : Listing) (f : Form) (r : ℕ) → (v : List ℕ) × (tag_of l f r ≡ less ∷ v)
less_first l (opens h) r = ((row_at l r).name ++ front h, refl)
less_first l closes r = (solidus ∷ ((row_at l r).name ++ (greater ∷ [])), refl)

pub tagged : (l : Listing) (es : List Entry) → Tagged (node_at l es)
tagged l es n = less_first l (entry_at es n).form (entry_at es n).row

-- ---- the numbers are the nodes': one computed test for each

house_table_lem : table_test house house_entries house_table ≡ true
unfolding house_entries house_table house stored_house row_at little every is_capital
house_table_lem = refl

report_table_lem : table_test report report_entries report_table ≡ true
unfolding report_entries report_table report stored_report row_at little every is_capital
report_table_lem = refl

tables_of : (b n : ℕ) (l : Listing) → b ≡ n → Tabled (table_of n) (node_at l (entries_of n)) → Tabled (table_of b) (node_at l (entries_of b))
tables_of b n l e t = subst (λ (i : ℕ). Tabled (table_of i) (node_at l (entries_of i))) (sym e) t

pub lists_tabled : (l : Listing) → Among l asked → Tabled (table_of l.byte) (nodes_of l)
lists_tabled = each_asked (λ l. Tabled (table_of l.byte) (nodes_of l))
    (tables_of house.byte 1 house house_byte (tabled house house_entries house_table house_table_lem))
    (tables_of report.byte 2 report report_byte (tabled report report_entries report_table report_table_lem))

-- ---- by any byte: a report's, or a statement's

by_byte : (P : List ℕ → Type 0) (x y : List ℕ) (b : Bool) → P x → P y → P (cond b x y)
by_byte P x y true p q = p
by_byte P x y false p q = q

house_start : In house_table 1
unfolding house_table
house_start = (omega arith, omega arith)

report_start : In report_table 1
unfolding report_table
report_start = (omega arith, omega arith)

pub nodes_start : (b : ℕ) → In (table_of b) 1
nodes_start b = by_byte (λ t. In t 1) report_table house_table (eqb b 2) report_start house_start
