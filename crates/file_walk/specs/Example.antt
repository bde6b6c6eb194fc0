-- Small messages against the house list with their first violations, one or more for each code; the judge is a stand-in. Assumes nothing.
use Rattle.std.specs.Prelude.{false, not, List, [], ◌∷◌, ℕ, suc, Ok, Err}
use Prim.Native.String.{String}
use Rattle.answer.specs.Table.{wrong_root, not_a_child, out_of_order, too_many, absent, wrong_attributes, text_in_group, empty, bad_value, rule_broken}
use Rattle.text.specs.Bytes.{ascii}
use Rattle.list.specs.Listing.{ref, iban, ccy, bool, num, amt, date, dtm, txt, enum}
use Rattle.xml.specs.Message.{Attrs, Inside, nothing_inside, character, element}
use Rattle.file_walk.specs.Types.{Judge}
use Rattle.file_walk.specs.mirror.Machine.{Verdict, judge_by}
use Rattle.file_walk.specs.First as first
use Rattle.file_walk.specs.First.{Found}

-- a stand-in: every text but the empty one is a value of every type but NUM, which has none
abbrev pub any_text : Verdict
any_text num w cs = false
any_text ref w cs = not (first.is_empty cs)
any_text iban w cs = not (first.is_empty cs)
any_text ccy w cs = not (first.is_empty cs)
any_text bool w cs = not (first.is_empty cs)
any_text amt w cs = not (first.is_empty cs)
any_text date w cs = not (first.is_empty cs)
any_text dtm w cs = not (first.is_empty cs)
any_text (txt k) w cs = not (first.is_empty cs)
any_text (enum ws) w cs = not (first.is_empty cs)

abbrev pub any_judge : Judge
any_judge = judge_by any_text

-- an element without attributes, its `<` at a place, with its parts, and what follows it; characters; a leaf with its text; an amount
abbrev pub el : ℕ → String → Inside → Inside → Inside
el o n i k = element o (ascii n) [] i k

abbrev pub chars : ℕ → List ℕ → Inside → Inside
chars o [] k = k
chars o (x ∷ xs) k = character o x (chars (suc o) xs k)

abbrev pub lf : ℕ → String → String → Inside → Inside
lf o n s k = el o n (chars (suc o) (ascii s) nothing_inside) k

abbrev pub amount : ℕ → Attrs → String → Inside → Inside
amount o ats s k = element o (ascii "Amt") ats (chars (suc o) (ascii s) nothing_inside) k

abbrev pub euro : Attrs
euro = (ascii "Ccy", ascii "EUR") ∷ []

abbrev pub space : Attrs
space = (ascii "xmlns", ascii "urn:iso:std:iso:20022:tech:xsd:camt.053.001.08") ∷ []

abbrev pub document : Attrs → Inside → Inside
document ats i = element 0 (ascii "Document") ats i nothing_inside

abbrev pub header : Inside → Inside
header k = el 20 "GrpHdr" (lf 30 "MsgId" "M1" (lf 40 "CreDtTm" "T" nothing_inside)) k

abbrev pub account : Inside → Inside
account k = el 120 "Acct" (el 130 "Id" (el 140 "Othr" (lf 150 "Id" "9" nothing_inside) nothing_inside) nothing_inside) k

abbrev pub balance : ℕ → Attrs → Inside → Inside
balance o ats k =
    el o "Bal" (el 210 "Tp" (el 220 "CdOrPrtry" (lf 230 "Cd" "CLBD" nothing_inside) nothing_inside) (amount 240 ats "5.00" (lf 250 "CdtDbtInd" "CRDT" (el 260 "Dt" (lf 270 "Dt" "D" nothing_inside) nothing_inside)))) k

-- a message with these parts in its statement
abbrev pub message : Inside → Inside
message i = document space (el 10 "BkToCstmrStmt" (header (el 100 "Stmt" i nothing_inside)) nothing_inside)

-- a whole statement, with these parts after its balance; an entry with these details
abbrev pub statement : Inside → Inside
statement k = message (lf 110 "Id" "S1" (account (balance 200 euro k)))

abbrev pub entry : Inside → Inside
entry i =
    el 300 "Ntry" (amount 310 euro "1" (lf 320 "CdtDbtInd" "DBIT" (el 330 "Sts" (lf 340 "Cd" "BOOK" nothing_inside)
    (el 350 "BkTxCd" (el 360 "Domn" (lf 362 "Cd" "X" (el 364 "Fmly" (lf 366 "Cd" "X" (lf 368 "SubFmlyCd" "X" nothing_inside)) nothing_inside)) nothing_inside) (el 380 "NtryDtls" (el 390 "TxDtls" i nothing_inside) nothing_inside))))) nothing_inside

unfoldable pub examples : List (Inside × Found)
examples =
    (statement nothing_inside, (Ok tt)) ∷
    (statement (balance 290 euro (entry (amount 400 euro "1" (lf 410 "CdtDbtInd" "DBIT" nothing_inside)))), (Ok tt)) ∷
    -- 4: no attribute; another name; a second attribute
    (document [] nothing_inside, Err (wrong_root 0)) ∷
    (element 7 (ascii "document") space nothing_inside nothing_inside, Err (wrong_root 7)) ∷
    (document ((ascii "a", []) ∷ space) nothing_inside, Err (wrong_root 0)) ∷
    -- 4: a hint without its prefix; another prefix; a hint alone
    (document ((ascii "xsi:schemaLocation", []) ∷ space) nothing_inside, Err (wrong_root 0)) ∷
    (document ((ascii "xmlns:xs", []) ∷ space) nothing_inside, Err (wrong_root 0)) ∷
    (document ((ascii "xmlns:xsi", []) ∷ []) nothing_inside, Err (wrong_root 0)) ∷
    -- hints in any order, with any text, are no violation: what comes next is 11
    (document ((ascii "xsi:schemaLocation", ascii "a b") ∷ (ascii "xmlns:xsi", []) ∷ space) nothing_inside, Err (empty 1 0)) ∷
    (document ((ascii "xmlns:xsi", ascii "a") ∷ space) nothing_inside, Err (empty 1 0)) ∷
    -- 5: no child of its parent; an element in a leaf
    (statement (lf 290 "Oops" "" nothing_inside), Err (not_a_child 6 290)) ∷
    (message (el 110 "Id" (lf 112 "Id" "1" nothing_inside) nothing_inside), Err (not_a_child 7 112)) ∷
    -- 6: also a row that comes again after a later sibling
    (statement (lf 290 "Id" "S2" nothing_inside), Err (out_of_order 7 290)) ∷
    -- 7: over its count; second child in a choice, whichever it is
    (message (lf 110 "Id" "S1" (lf 115 "Id" "S2" nothing_inside)), Err (too_many 7 115)) ∷
    (message (lf 110 "Id" "S1" (el 120 "Acct" (el 130 "Id" (lf 140 "IBAN" "A" (el 150 "Othr" nothing_inside nothing_inside)) nothing_inside) nothing_inside)), Err (too_many 12 150)) ∷
    (message (lf 110 "Id" "S1" (el 120 "Acct" (el 130 "Id" (el 140 "Othr" (lf 150 "Id" "9" nothing_inside) (lf 160 "IBAN" "A" nothing_inside)) nothing_inside) nothing_inside)), Err (too_many 11 160)) ∷
    -- 9: an attribute too many, also a hint; none on an amount; another name; a currency that is none
    (message (element 110 (ascii "Id") space nothing_inside nothing_inside), Err (wrong_attributes 7 110)) ∷
    (message (element 110 (ascii "Id") ((ascii "xmlns:xsi", []) ∷ []) nothing_inside nothing_inside), Err (wrong_attributes 7 110)) ∷
    (message (lf 110 "Id" "S1" (account (balance 200 [] nothing_inside))), Err (wrong_attributes 19 240)) ∷
    (message (lf 110 "Id" "S1" (account (balance 200 space nothing_inside))), Err (wrong_attributes 19 240)) ∷
    (message (lf 110 "Id" "S1" (account (balance 200 ((ascii "Ccy", []) ∷ []) nothing_inside))), Err (wrong_attributes 19 240)) ∷
    -- 10: the first character that is no blank
    (message (chars 101 (ascii " xy") nothing_inside), Err (text_in_group 6 102)) ∷
    -- 11: no character in a leaf; no child in a group, blanks or not
    (message (lf 110 "Id" "" nothing_inside), Err (empty 7 110)) ∷
    (message nothing_inside, Err (empty 6 100)) ∷
    (message (chars 101 (ascii " ") nothing_inside), Err (empty 6 100)) ∷
    -- 8: the lowest that is absent, at the parent's `<`, and after what stands in a later sibling
    (message (lf 110 "Id" "S1" (account nothing_inside)), Err (absent 15 100)) ∷
    (message (balance 200 euro nothing_inside), Err (absent 7 100)) ∷
    (message (balance 200 [] nothing_inside), Err (wrong_attributes 19 240)) ∷
    -- 12: also of blanks only
    (message (lf 110 "Id" "S1" (lf 115 "ElctrncSeqNb" " " nothing_inside)), Err (bad_value 8 115)) ∷
    -- 13: one of the two rows, whichever it is
    (statement (entry (amount 400 euro "1" nothing_inside)), Err (rule_broken 43 390)) ∷
    (statement (entry (amount 400 euro "1" (el 420 "RmtInf" (lf 430 "Ustrd" "U" nothing_inside) nothing_inside))), Err (rule_broken 43 390)) ∷
    (statement (entry (lf 410 "CdtDbtInd" "DBIT" nothing_inside)), Err (rule_broken 43 390)) ∷ []
