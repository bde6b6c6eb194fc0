-- The starred examples hold of the definitions: one statement over each table, by one computed test. Assumes nothing.
use Rattle.std.specs.Prelude.{Ok, Err}
use mathlib.Core.Path.{◌≡◌, refl, sym, ◌∙◌, ap, subst}
use mathlib.Core.Bool.{Bool, true, false, ◌&&◌, not, xor, true≢false, false≢true}
use mathlib.Core.List.{List, [], ◌∷◌, ◌++◌}
use Prim.Native.Nat.{ℕ}
use Prim.Native.String.{String}
use native.Mathlib.Omega.{arith}
use lib.Dec.{eqb, leb}
use lib.ListN.{length, drop}
use borrow.Author.Tests.{leb-true, eqb-true}
use Rattle.answer.specs.declared.Answer.{Answer}
use Rattle.answer.specs.Table.{answer, accepted, limit, not_house_xml, no_room}
use Rattle.text.specs.Bytes.{ascii, is_blank, is_capital, is_digit, is_letter, is_name_start, is_name_part}
use Rattle.text.specs.Lists.{Each, same}
use Rattle.text.specs.Numbers.{big_endian}
use Rattle.text_characters.specs.Utf8.{encode}
use Rattle.text_characters.specs.Pieces.{Piece, char}
use Rattle.text.proofs.Classes.{and_is}
use Rattle.list.specs.Words.{first_from}
use Rattle.list.specs.Listing.{Listing, row_at, child, next_due}
use Rattle.list.specs.tables.Sound.{first_of, second_of}
use Rattle.list.specs.Content.{Content as Kept}
use Rattle.list_house.specs.House.{house, report}
use Rattle.list.specs.tables.Test.{every as all, begins}
use Rattle.list_house.proofs.Lists.{house_asked, asked_well}
use Rattle.list.proofs.rows.Words.{same_eq}
use Rattle.xml.specs.House.{double, Tag, Markup, no_more, piece, empty_tag, full, OneElement, whole}
use Rattle.xml.specs.Message.{Inside, message_of}
use Rattle.xml.specs.mirror.Auto.{at, start, step, next, lead, run, live_len}
use Rattle.xml.proofs.Theorem.{longest, refused}
use Rattle.xml_tags.specs.Story.{events}
use Rattle.value.specs.types.Plain.{decimal_from}
use Rattle.value.specs.types.Text.{is_ref, is_txt}
use Rattle.value.specs.mirror.Texts.{text_from}
use Rattle.value.specs.mirror.Reading.{read_of, signed_of, point_of, whole_of, frac_of, answer as judged}
use Rattle.list.specs.tables.Table.{place_from}
use Rattle.value.specs.decided.Spell.{spell, front_off, back_off, passes_from, day_of, fraction_of, zone_of, moment_of}
use Rattle.value.specs.Value.{Value}
use Rattle.file_walk.specs.First.{Found, absent_row, child_rows, inside, first_violation}
use Rattle.file_walk.specs.mirror.Machine.{speller_of, before, fresh, advance, emits}
use Rattle.file_walk.proofs.violation.Accept.{accept}
use Rattle.file_walk.proofs.events.Items.{items_are}
use Rattle.image.specs.Image.{header, items_bytes, image}
use Rattle.image.specs.Kinds.{values}
use Rattle.file.specs.Instance.{house_types, house_kinds}
use Rattle.file.specs.File.{Whole, File, image_of}
use Rattle.file.specs.Checks.{Answers, Chosen, Checks}
use Rattle.file.specs.Checks as checks
use Rattle.file.specs.Stars.{Buffers, every, from, under, Lent, Star, Shows, stars, times, reports}
use Rattle.file.proofs.answers.One.{message_one}
use Rattle.file.proofs.Chosen.{list_for, list_among, list_chosen}
use Rattle.file.proofs.answers.House.{spelling, computing, house_judge, deciding}
use Rattle.file.proofs.Trees.{content_test, root_tree, tree_good, ascii_test, ascii_utf8, not_is}
use Rattle.file_walk.proofs.bytes.Root.{one_element}
use Rattle.file.proofs.answers.Some.{is_done}

-- ---- the test of a row

-- how a file is shown: by its tree, or as no house XML
data Way : Type 0 where
  tree : Markup → Way
  stray : Way

abbrev same_answer : Answer → Answer → Bool
same_answer a b = eqb a.code b.code && (eqb a.row b.row && eqb a.place b.place)

abbrev is_nil : List ℕ → Bool
is_nil [] = true
is_nil (x ∷ xs) = false

abbrev is_end : Markup → Bool
is_end no_more = true
is_end (piece p k) = false
is_end (empty_tag t k) = false
is_end (full t i g k) = false

abbrev one_test : Markup → Bool
one_test no_more = false
one_test (piece p k) = false
one_test (empty_tag t k) = is_end k
one_test (full t i g k) = is_end k

-- a tree's message, the list that it chooses, its first violation by that, and the image of the items that the walk hands out
abbrev told : Markup → Inside
told i = message_of (root_tree i)

abbrev list_in : Markup → Listing
list_in i = list_for (told i)

abbrev found_by : Listing → Markup → Found
found_by l i = first_violation house_judge l (told i)

abbrev image_by : Listing → Markup → List ℕ
image_by l i = header l ++ (items_bytes values l (emits (speller_of house_types spell) l before (events (told i) [])) ++ (0 ∷ []))

abbrev found_in : Markup → Found
found_in i = found_by (list_in i) i

abbrev image_in : Markup → List ℕ
image_in i = image_by (list_in i) i

abbrev fits : Star → List ℕ → Buffers → Bool
fits e x every = false
fits e x (from n) = leb (length x) n && (same_answer e.answer (accepted (length x)) && same e.image x)
fits e x (under n) = leb n (length x) && (same_answer e.answer (no_room (length x)) && is_nil e.image)

abbrev walked : Star → List ℕ → Found → Bool
walked e x (Ok tt) = fits e x e.lent
walked e x (Err a) = same_answer e.answer a && is_nil e.image

abbrev way_test : Star → Way → Bool
way_test e (tree i) = content_test 16 i && (one_test i && (same e.file (whole (root_tree i)) && walked e (image_in i) (found_in i)))
way_test e stray = not (is_done (run (at start) e.file)) && (same_answer e.answer (not_house_xml (live_len (at start) e.file)) && is_nil e.image)

abbrev row_test : Star → Way → Bool
row_test e w = ascii_test e.file && (leb (length e.file) limit && way_test e w)

abbrev table_test : List Star → List Way → Bool
table_test [] ws = true
table_test (e ∷ es) [] = false
table_test (e ∷ es) (w ∷ ws) = row_test e w && table_test es ws

-- ---- what it shows

same_answer_lem : (a b : Answer) → same_answer a b ≡ true → a ≡ b
same_answer_lem a b t =
    let p = and_is (eqb a.code b.code) (eqb a.row b.row && eqb a.place b.place) t in
    let q = and_is (eqb a.row b.row) (eqb a.place b.place) p.1 in
    ap (λ (x : ℕ). answer x a.row a.place) (eqb-true a.code b.code p.0)
    ∙ ap (λ (x : ℕ). answer b.code x a.place) (eqb-true a.row b.row q.0)
    ∙ ap (λ (x : ℕ). answer b.code b.row x) (eqb-true a.place b.place q.1)

nil_is : (x : List ℕ) → is_nil x ≡ true → x ≡ []
nil_is [] t = refl
nil_is (y ∷ x) t = absurd (false≢true t)

end_is : (k : Markup) → is_end k ≡ true → k ≡ no_more
end_is no_more t = refl
end_is (piece p k) t = absurd (false≢true t)
end_is (empty_tag g k) t = absurd (false≢true t)
end_is (full g i h k) t = absurd (false≢true t)

one_is : (i : Markup) → one_test i ≡ true → OneElement i
one_is no_more t = absurd (false≢true t)
one_is (piece p k) t = absurd (false≢true t)
one_is (empty_tag g k) t = end_is k t
one_is (full g i h k) t = end_is k t

module _ (e : Star) (chars : ascii_test e.file ≡ true) (size : leb (length e.file) limit ≡ true) (d : List ℕ) where
  -- the buffer after the call
  abbrev left : List ℕ → List ℕ
  left x = x ++ drop (length x) d

  kept : is_nil e.image ≡ true → left e.image ≡ d
  kept t = ap left (nil_is e.image t)

  module _ (i : Markup) (good : content_test 16 i ≡ true) (one : OneElement i) (is : e.file ≡ whole (root_tree i)) where
    file : Whole e.file
    file = record { size = leb-true (length e.file) limit size; utf8 = ascii_utf8 e.file chars; xml = record { tree = root_tree i; good = tree_good i good one; is = is } }

    l : Listing
    l = list_in i

    -- what is answered by the list that its message chooses
    by_list : (a : Answer) (d' : List ℕ) → Answers house_kinds l e.file d a d' → Checks e.file d a d'
    unfolding file l
    by_list a d' p = record {
      list = l;
      among = list_among (told i);
      chosen = λ w. subst (λ (m : Inside). Chosen m l) (message_one e.file file w) (list_chosen (told i));
      answers = p;
    }

    -- its content, and that its image is the one tested
    record Right : Type 0 where
      content : Kept Value
      its : File house_kinds l e.file content
      pictured : image_of house_kinds l content ≡ image_in i

    right : found_in i ≡ Ok tt → Right
    unfolding file image l
    right z =
        let wf = asked_well l (list_among (told i)) in
        let c = accept house_types spelling l wf (told i) (one_element i 0 one) (record { judge = house_judge; decides = deciding; is = z }) in
        record {
          content = c.0;
          its = record { whole = file; has = c.2; meets = c.1 };
          pictured = ap (λ is'. header l ++ (items_bytes values l is' ++ (0 ∷ []))) (sym (items_are house_types spell computing l wf (told i) c.0 c.2));
        }

    fits_shown : found_in i ≡ Ok tt → (b : Buffers) → Lent b d → fits e (image_in i) b ≡ true → Checks e.file d e.answer (left e.image)
    fits_shown z every h t = absurd (false≢true t)
    fits_shown z (from m) h t =
        let r = right z in
        let n : length (image_of house_kinds l r.content) ≡ length (image_in i) = ap length r.pictured in
        let o = and_is (leb (length (image_in i)) m) (same_answer e.answer (accepted (length (image_in i))) && same e.image (image_in i)) t in
        let a = and_is (same_answer e.answer (accepted (length (image_in i)))) (same e.image (image_in i)) o.1 in
        by_list e.answer (left e.image)
        (checks.imaged r.content r.its (omega (arith, n, h, leb-true (length (image_in i)) m o.0)) (same_answer_lem e.answer (accepted (length (image_in i))) a.0 ∙ ap accepted (sym n))
        (ap left (same_eq e.image (image_in i) a.1 ∙ sym r.pictured)))
    fits_shown z (under m) h t =
        let r = right z in
        let n : length (image_of house_kinds l r.content) ≡ length (image_in i) = ap length r.pictured in
        let o = and_is (leb m (length (image_in i))) (same_answer e.answer (no_room (length (image_in i))) && is_nil e.image) t in
        let a = and_is (same_answer e.answer (no_room (length (image_in i)))) (is_nil e.image) o.1 in
        by_list e.answer (left e.image)
        (checks.room r.content r.its (omega (arith, n, h, leb-true m (length (image_in i)) o.0)) (same_answer_lem e.answer (no_room (length (image_in i))) a.0 ∙ ap no_room (sym n))
        (kept a.1))

    walked_shown : Lent e.lent d → (f : Found) → found_in i ≡ f → walked e (image_in i) f ≡ true → Checks e.file d e.answer (left e.image)
    unfolding file l
    walked_shown h (Ok tt) z t = fits_shown z e.lent h t
    walked_shown h (Err v) z t =
        let a = and_is (same_answer e.answer v) (is_nil e.image) t in
        by_list e.answer (left e.image) (checks.violation file (record { judge = house_judge; decides = deciding; is = z ∙ ap Err (sym (same_answer_lem e.answer v a.0)) }) (kept a.1))

  way_shown : Lent e.lent d → (w : Way) → way_test e w ≡ true → Checks e.file d e.answer (left e.image)
  way_shown l (tree i) t =
      let a = and_is (content_test 16 i) (one_test i && (same e.file (whole (root_tree i)) && walked e (image_in i) (found_in i))) t in
      let b = and_is (one_test i) (same e.file (whole (root_tree i)) && walked e (image_in i) (found_in i)) a.1 in
      let c = and_is (same e.file (whole (root_tree i))) (walked e (image_in i) (found_in i)) b.1 in
      walked_shown i a.0 (one_is i b.0) (same_eq e.file (whole (root_tree i)) c.0) l (found_in i) refl c.1
  way_shown l stray t =
      let n = live_len (at start) e.file in
      let a = and_is (not (is_done (run (at start) e.file))) (same_answer e.answer (not_house_xml n) && is_nil e.image) t in
      let b = and_is (same_answer e.answer (not_house_xml n)) (is_nil e.image) a.1 in
      let none = refused e.file (λ r. true≢false (ap is_done (sym r) ∙ not_is (is_done (run (at start) e.file)) a.0)) in
      record {
        list = house;
        among = house_asked;
        chosen = λ w. absurd (none w.xml);
        answers = checks.markup (leb-true (length e.file) limit size) (ascii_utf8 e.file chars) none n (longest e.file) (same_answer_lem e.answer (not_house_xml n) b.0) (kept b.1);
      }

shown : (es : List Star) (ws : List Way) → table_test es ws ≡ true → Each Shows es
shown [] ws t = tt
shown (e ∷ es) [] t = absurd (false≢true t)
shown (e ∷ es) (w ∷ ws) t =
    let a = and_is (row_test e w) (table_test es ws) t in
    let b = and_is (ascii_test e.file) (leb (length e.file) limit && way_test e w) a.0 in
    let c = and_is (leb (length e.file) limit) (way_test e w) b.1 in
    ((λ d l. way_shown e b.0 c.0 d l w c.1), shown es ws a.1)

-- ---- the trees

abbrev pieces : List ℕ → List Piece
pieces [] = []
pieces (x ∷ xs) = char x ∷ pieces xs

abbrev text : List ℕ → Markup
text [] = no_more
text (x ∷ xs) = piece (char x) (text xs)

abbrev named : String → Tag
named n = record { name = ascii n; attributes = []; gap = [] }

-- with an attribute
abbrev marked : String → String → List ℕ → Tag
marked n a v = record { name = ascii n; attributes = record { gap = 32 ∷ []; name = ascii a; before = []; after = []; quote = double; value = pieces v } ∷ []; gap = [] }

abbrev element : String → Markup → Markup → Markup
element n i k = full (named n) i [] k

abbrev leaf : String → String → Markup → Markup
leaf n v k = element n (text (ascii v)) k

abbrev amount_tree : String → Markup → Markup
amount_tree a k = full (marked "Amt" "Ccy" (ascii "EUR")) (text (ascii a)) [] (leaf "CdtDbtInd" "CRDT" k)

abbrev message_tree : String → String → String → String → String → Markup → Markup
message_tree n b p t m rest =
    full (marked "Document" "xmlns" (ascii "urn:iso:std:iso:20022:tech:xsd:camt." ++ ascii n))
    (element b (element "GrpHdr" (leaf "MsgId" m (leaf "CreDtTm" t no_more))
    (element p (leaf "Id" "S1" (element "Acct" (element "Id" (element "Othr" (leaf "Id" "9" no_more) no_more) no_more) rest)) no_more)) no_more) [] no_more

abbrev balance_tree : String → String → Markup → Markup
balance_tree b a k =
    element "Bal" (element "Tp" (element "CdOrPrtry" (leaf "Cd" b no_more) no_more) (amount_tree a (element "Dt" (leaf "Dt" "2024-02-29" no_more) no_more))) k

abbrev statement_tree_at : String → String → String → Markup
statement_tree_at t m a = message_tree "053.001.08" "BkToCstmrStmt" "Stmt" t m (balance_tree "CLBD" a no_more)

abbrev statement_tree : String → String → Markup
statement_tree m a = statement_tree_at "2024-03-01T06:00:00Z" m a

abbrev amount : String → Way
amount a = tree (statement_tree "M1" a)

unfoldable ways : List Way
ways =
    stray ∷ stray ∷ tree (empty_tag (named "Document") no_more) ∷
    amount "1250.50" ∷ amount "-0.00" ∷ amount ".5" ∷ amount "0.000010" ∷ amount "999999999999999999" ∷
    amount "0.000001" ∷ amount "1000000000000000000" ∷ amount "." ∷
    tree (statement_tree "A/B" "5.00") ∷ tree (statement_tree "A//B" "5.00") ∷ amount "5.00" ∷ amount "5.00" ∷ []

-- what the test computes with: of texts and lists, and of values and the walk
unfoldable texts : List Star → List Way → Bool
unfolding live_len run step next lead all begins encode is_blank is_capital is_digit is_letter is_name_start is_name_part first_violation inside child_rows absent_row child first_from same row_at house report list_for xor decimal_from
texts es ws = table_test es ws

unfoldable computes : List Star → List Way → Bool
unfolding texts is_ref is_txt text_from read_of signed_of point_of whole_of frac_of judged spell front_off back_off passes_from place_from day_of fraction_of zone_of moment_of header big_endian fresh advance emits next_due first_of second_of
computes es ws = texts es ws

-- every row of the table shows
pub all_stars : Each Shows stars
unfolding stars computes ways
all_stars = shown stars ways refl

-- date-times

abbrev time : String → Way
time t = tree (statement_tree_at t "M1" "5.00")

unfoldable moments : List Way
moments =
    time "2024-02-29T24:00:00Z" ∷ time "2024-03-01T00:00:00Z" ∷ time "9999-12-31T24:00:00Z" ∷ time "2024-02-29T24:00:00.0Z" ∷
    time "2024-03-01T06:00:00.12Z" ∷ time "2024-03-01T06:00:00.120Z" ∷ time "2024-03-01T06:00:00.120000Z" ∷ []

pub all_times : Each Shows times
unfolding times computes moments
all_times = shown times moments refl

-- intraday reports

abbrev kind_tree : String → String → String → Markup → Way
kind_tree n b p rest = tree (message_tree n b p "2024-03-01T06:00:00Z" "M1" rest)

abbrev booked : Markup → Way
booked rest = kind_tree "053.001.08" "BkToCstmrStmt" "Stmt" rest

abbrev intraday : Markup → Way
intraday rest = kind_tree "052.001.08" "BkToCstmrAcctRpt" "Rpt" rest

abbrev entry_tree : String → Markup
entry_tree b =
    element "Ntry" (amount_tree "5.00" (element "Sts" (leaf "Cd" b no_more)
    (element "BkTxCd" (element "Domn" (leaf "Cd" "PMNT" (element "Fmly" (leaf "Cd" "RCDT" (leaf "SubFmlyCd" "ESCT" no_more)) no_more)) no_more) no_more))) no_more

abbrev closing : Markup → Markup
closing k = balance_tree "CLBD" "5.00" k

unfoldable kinds : List Way
kinds =
    intraday no_more ∷ booked no_more ∷ intraday (balance_tree "ITBD" "5.00" no_more) ∷ booked (balance_tree "ITBD" "5.00" no_more) ∷
    intraday (entry_tree "PDNG") ∷ booked (closing (entry_tree "PDNG")) ∷
    kind_tree "052.001.08" "BkToCstmrStmt" "Stmt" (closing no_more) ∷ kind_tree "054.001.08" "BkToCstmrStmt" "Stmt" (closing no_more) ∷ []

pub all_reports : Each Shows reports
unfolding reports computes kinds
all_reports = shown reports kinds refl
