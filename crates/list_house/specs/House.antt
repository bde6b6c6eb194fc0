-- "The house list": its rows, with their numbers at the right, its rule, its namespace. Assumes nothing.
-- Written by tools/lists/make.
use Rattle.std.specs.Prelude.{List, [], ◌∷◌, ℕ}
use Prim.Native.String.{String}
use Rattle.text.specs.Bytes.{ascii}
use Rattle.list.specs.Listing.{ref, iban, ccy, bool, num, amt, date, dtm, txt, enum, Kind, group, choice, leaf, Count, one, optional, several, any, alternative, Row, both, Listing}
use Rattle.list.specs.Changed.{changed, altered}

-- "name, parent row, count, kind"
abbrev row : String → ℕ → Count → Kind → Row
row n p c k = record { name = ascii n; parent = p; count = c; kind = k }

unfoldable rows_listed : List Row
rows_listed =
    row "Document" 0 one group ∷ row "BkToCstmrStmt" 1 one group ∷  -- 1, 2
    row "GrpHdr" 2 one group ∷ row "MsgId" 3 one (leaf ref) ∷  -- 3, 4
    row "CreDtTm" 3 one (leaf dtm) ∷ row "Stmt" 2 several group ∷  -- 5, 6
    row "Id" 6 one (leaf ref) ∷ row "ElctrncSeqNb" 6 optional (leaf num) ∷  -- 7, 8
    row "Acct" 6 one group ∷ row "Id" 9 one choice ∷  -- 9, 10
    row "IBAN" 10 alternative (leaf iban) ∷ row "Othr" 10 alternative group ∷  -- 11, 12
    row "Id" 12 one (leaf (txt 34)) ∷ row "Ccy" 9 optional (leaf ccy) ∷  -- 13, 14
    row "Bal" 6 several group ∷ row "Tp" 15 one group ∷  -- 15, 16
    row "CdOrPrtry" 16 one group ∷ row "Cd" 17 one (leaf (enum (ascii "OPBD" ∷ ascii "CLBD" ∷ ascii "PRCD" ∷ []))) ∷  -- 17, 18
    row "Amt" 15 one (leaf amt) ∷ row "CdtDbtInd" 15 one (leaf (enum (ascii "CRDT" ∷ ascii "DBIT" ∷ []))) ∷  -- 19, 20
    row "Dt" 15 one group ∷ row "Dt" 21 one (leaf date) ∷  -- 21, 22
    row "Ntry" 6 any group ∷ row "Amt" 23 one (leaf amt) ∷  -- 23, 24
    row "CdtDbtInd" 23 one (leaf (enum (ascii "CRDT" ∷ ascii "DBIT" ∷ []))) ∷ row "RvslInd" 23 optional (leaf bool) ∷  -- 25, 26
    row "Sts" 23 one group ∷ row "Cd" 27 one (leaf (enum (ascii "BOOK" ∷ []))) ∷  -- 27, 28
    row "BookgDt" 23 optional group ∷ row "Dt" 29 one (leaf date) ∷  -- 29, 30
    row "ValDt" 23 optional group ∷ row "Dt" 31 one (leaf date) ∷  -- 31, 32
    row "AcctSvcrRef" 23 optional (leaf ref) ∷ row "BkTxCd" 23 one group ∷  -- 33, 34
    row "Domn" 34 optional group ∷ row "Cd" 35 one (leaf (txt 4)) ∷  -- 35, 36
    row "Fmly" 35 one group ∷ row "Cd" 37 one (leaf (txt 4)) ∷  -- 37, 38
    row "SubFmlyCd" 37 one (leaf (txt 4)) ∷ row "Prtry" 34 optional group ∷  -- 39, 40
    row "Cd" 40 one (leaf (txt 35)) ∷ row "NtryDtls" 23 any group ∷  -- 41, 42
    row "TxDtls" 42 any group ∷ row "Refs" 43 optional group ∷  -- 43, 44
    row "EndToEndId" 44 optional (leaf ref) ∷ row "MndtId" 44 optional (leaf ref) ∷  -- 45, 46
    row "Amt" 43 optional (leaf amt) ∷ row "CdtDbtInd" 43 optional (leaf (enum (ascii "CRDT" ∷ ascii "DBIT" ∷ []))) ∷  -- 47, 48
    row "RltdPties" 43 optional group ∷ row "Dbtr" 49 optional group ∷  -- 49, 50
    row "Pty" 50 one group ∷ row "Nm" 51 optional (leaf (txt 140)) ∷  -- 51, 52
    row "DbtrAcct" 49 optional group ∷ row "Id" 53 one group ∷  -- 53, 54
    row "IBAN" 54 one (leaf iban) ∷ row "RmtInf" 43 optional group ∷  -- 55, 56
    row "Ustrd" 56 any (leaf (txt 140)) ∷ []  -- 57

-- "Rule on row 43 (..): rows 47 and 48 are both present or both absent"
unfoldable pub stored_house : Listing
unfolding rows_listed
stored_house = record { rows = rows_listed; rules = both 43 47 48 ∷ []; space = ascii "urn:iso:std:iso:20022:tech:xsd:camt.053.001.08"; byte = 1 }

-- what files are asked of some of these rows; no file may have a row without a name
unfoldable pub rows_narrower : List (ℕ × Row)
rows_narrower =
    (35, row "Domn" 34 one group) ∷ (40, row "" 34 optional group) ∷ (41, row "" 40 one (leaf (txt 35))) ∷ []

unfoldable pub house : Listing
unfolding stored_house rows_narrower
house = altered stored_house rows_narrower

-- camt.052.001.08: the rows of `rows_listed`, but for these
unfoldable report_listed : List Row
unfolding rows_listed
report_listed = changed rows_listed (
    (2, row "BkToCstmrAcctRpt" 1 one group) ∷ (6, row "Rpt" 2 several group) ∷ (15, row "Bal" 6 any group) ∷
    (18, row "Cd" 17 one (leaf (enum (ascii "OPBD" ∷ ascii "CLBD" ∷ ascii "PRCD" ∷ ascii "ITBD" ∷ [])))) ∷
    (28, row "Cd" 27 one (leaf (enum (ascii "BOOK" ∷ ascii "PDNG" ∷ [])))) ∷ [])

-- "Rule on row 43 (..): rows 47 and 48 are both present or both absent"
unfoldable pub stored_report : Listing
unfolding report_listed
stored_report = record { rows = report_listed; rules = both 43 47 48 ∷ []; space = ascii "urn:iso:std:iso:20022:tech:xsd:camt.052.001.08"; byte = 2 }

unfoldable pub report : Listing
unfolding stored_report rows_narrower
report = altered stored_report rows_narrower
