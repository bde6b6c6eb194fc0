-- The starred examples of document 01, "the proved set": one table, as document 02 amends it. Assumes nothing.
use Rattle.std.specs.Prelude.{List, [], ◌∷◌, ◌++◌, ℕ, ◌≤◌, ◌<◌, length, drop}
use Prim.Native.String.{String}
use Rattle.answer.specs.declared.Answer.{Answer}
use Rattle.answer.specs.Table.{accepted, not_house_xml, wrong_root, not_a_child, absent, bad_value, no_room}
use Rattle.text.specs.Bytes.{ascii}
use Rattle.text.specs.Numbers.{big_endian}
use Rattle.file.specs.Checks.{Checks}

-- which buffers a row speaks of: every one, those of n bytes and more, those of fewer
pub data Buffers : Type 0 where
  every : Buffers
  from : ℕ → Buffers
  under : ℕ → Buffers

abbrev pub Lent : Buffers → List ℕ → Type 0
Lent every d = Unit {0}
Lent (from n) d = n ≤ length d
Lent (under n) d = length d < n

-- a file, the buffers, the answer, and the image that is written, which a refused file has none of
pub record Star : Type 0 where
  pub file : List ℕ
  pub lent : Buffers
  pub answer : Answer
  pub image : List ℕ

-- what a row says: of every such buffer, whatever stands in it
abbrev pub Shows : Star → Type 0
Shows e = (d : List ℕ) → Lent e.lent d → Checks e.file d e.answer (e.image ++ drop (length e.image) d)

-- a message with one part: the end of its namespace, the names of its body and of the part, its date-time and MsgId, and what stands after the account
abbrev pub message_text : String → String → String → String → String → List ℕ → List ℕ
message_text n b p t m rest =
    ascii "<Document xmlns=\"urn:iso:std:iso:20022:tech:xsd:camt." ++ (ascii n ++ (ascii "\"><" ++ (ascii b ++ (ascii "><GrpHdr><MsgId>" ++ (ascii m
    ++ (ascii "</MsgId><CreDtTm>" ++ (ascii t ++ (ascii "</CreDtTm></GrpHdr><" ++ (ascii p ++ (ascii "><Id>S1</Id><Acct><Id><Othr><Id>9</Id></Othr></Id></Acct>" ++ (rest
    ++ (ascii "</" ++ (ascii p ++ (ascii "></" ++ (ascii b ++ ascii "></Document>")))))))))))))))

-- a balance of this type and amount
abbrev pub balance : String → String → List ℕ
balance b a =
    ascii "<Bal><Tp><CdOrPrtry><Cd>" ++ (ascii b ++ (ascii "</Cd></CdOrPrtry></Tp><Amt Ccy=\"EUR\">" ++ (ascii a ++ ascii "</Amt><CdtDbtInd>CRDT</CdtDbtInd><Dt><Dt>2024-02-29</Dt></Dt></Bal>")))

-- document 01's whole file, with this date-time, this MsgId and this amount
abbrev pub statement_at : String → String → String → List ℕ
statement_at t m a = message_text "053.001.08" "BkToCstmrStmt" "Stmt" t m (balance "CLBD" a)

-- with its own date-time
abbrev pub statement : String → String → List ℕ
statement m a = statement_at "2024-03-01T06:00:00Z" m a

-- the image of such a message: version 2, its kind byte, the bytes of this date-time, this MsgId, and those of what stands after the account
abbrev pub pictured : ℕ → List ℕ → List ℕ → List ℕ → List ℕ
pictured kind t m rest =
    0x4B ∷ 0x54 ∷ 0x4F ∷ 0x00 ∷ 0x02 ∷ kind ∷ 0x01 ∷ 0x02 ∷ 0x03 ∷ 0x04 ∷ (big_endian 2 (length m) ++ (m ++ (0x05 ∷ (t ++ (
    0x06 ∷ 0x07 ∷ 0x00 ∷ 0x02 ∷ 0x53 ∷ 0x31 ∷ 0x09 ∷ 0x0A ∷ 0x0C ∷ 0x0D ∷ 0x00 ∷ 0x01 ∷ 0x39 ∷ (rest ++ (0x00 ∷ [])))))))

-- of a balance: the place of its type, its scale and coefficient
abbrev pub balanced : ℕ → ℕ → ℕ → List ℕ
balanced b scale coefficient =
    0x0F ∷ 0x10 ∷ 0x11 ∷ 0x12 ∷ b ∷ 0x13 ∷ 0x45 ∷ 0x55 ∷ 0x52 ∷ scale ∷ (big_endian 8 coefficient ++ (
    0x14 ∷ 0x01 ∷ 0x15 ∷ 0x16 ∷ 0x07 ∷ 0xE8 ∷ 0x02 ∷ 0x1D ∷ []))

-- the bytes of document 01's date-time
abbrev pub six_o_clock : List ℕ
six_o_clock = 0x07 ∷ 0xE8 ∷ 0x03 ∷ 0x01 ∷ 0x06 ∷ 0x00 ∷ 0x00 ∷ 0x00 ∷ 0x00 ∷ 0x00 ∷ 0x00 ∷ 0x03 ∷ 0x48 ∷ []

-- document 01's image, with this MsgId, scale and coefficient
abbrev pub printed : List ℕ → ℕ → ℕ → List ℕ
printed m scale coefficient = pictured 1 six_o_clock m (balanced 2 scale coefficient)

-- refused whatever the buffer is
abbrev pub refused : List ℕ → Answer → Star
refused s a = record { file = s; lent = every; answer = a; image = [] }

-- accepted, with an image of n bytes, by every buffer that has them
abbrev pub good : List ℕ → ℕ → List ℕ → Star
good s n x = record { file = s; lent = from n; answer = accepted n; image = x }

-- a good amount, its coefficient and its scale; one that is none: 12 at its element's `<`
abbrev pub amount : String → ℕ → ℕ → Star
amount a c k = good (statement "M1" a) 68 (printed (ascii "M1") k c)

abbrev pub no_amount : String → Star
no_amount a = refused (statement "M1" a) (bad_value 19 265)

unfoldable pub stars : List Star
stars =
    -- "empty: 3, place 0. `<a></b>`: 3, place 5. `<Document/>`: 4, row 1, place 0"
    refused [] (not_house_xml 0) ∷
    refused (ascii "<a></b>") (not_house_xml 5) ∷
    refused (ascii "<Document/>") (wrong_root 0) ∷
    -- "AMT accepted: `1250.50` (12505, scale 1), `-0.00` (0, 0), `.5`, .. `0.000010` (1, 5), 18 nines"
    amount "1250.50" 12505 1 ∷
    amount "-0.00" 0 0 ∷
    amount ".5" 5 1 ∷
    amount "0.000010" 1 5 ∷
    amount "999999999999999999" 999999999999999999 0 ∷
    -- "Refused with 12: `0.000001`, 1 with 18 zeros, .. `.`"
    no_amount "0.000001" ∷
    no_amount "1000000000000000000" ∷
    no_amount "." ∷
    -- "REF: `A/B` good, `A//B` bad"
    good (statement "A/B" "5.00") 69 (printed (ascii "A/B") 0 5) ∷
    refused (statement "A//B" "5.00") (bad_value 4 88) ∷
    -- "Document 01's whole example is then written as 68 bytes, version 2 and kind byte 1: a 68-byte buffer accepts, 67 gives 14, place 68"
    good (statement "M1" "5.00") 68 (printed (ascii "M1") 0 5) ∷
    record { file = statement "M1" "5.00"; lent = under 68; answer = no_room 68; image = [] } ∷
    []

-- a good date-time of March 1st with its hour and the last three bytes of its microseconds, at offset 0; one that is none: 12 at its element's `<`
abbrev pub time : String → ℕ → ℕ → ℕ → ℕ → Star
time t h a b c =
    good (statement_at t "M1" "5.00") 68 (pictured 1 (0x07 ∷ 0xE8 ∷ 0x03 ∷ 0x01 ∷ h ∷ 0x00 ∷ 0x00 ∷ 0x00 ∷ a ∷ b ∷ c ∷ 0x03 ∷ 0x48 ∷ []) (ascii "M1") (balanced 2 0 5))

abbrev pub no_time : String → Star
no_time t = refused (statement_at t "M1" "5.00") (bad_value 5 105)

-- beside the starred ones: date-times by document 02, section 3
unfoldable pub times : List Star
times =
    -- "24:00:00, without fraction: its content is 00:00:00 of the next day": one image
    time "2024-02-29T24:00:00Z" 0 0 0 0 ∷
    time "2024-03-01T00:00:00Z" 0 0 0 0 ∷
    -- "and on 9999-12-31 it is refused with 12"
    no_time "9999-12-31T24:00:00Z" ∷
    no_time "2024-02-29T24:00:00.0Z" ∷
    -- "a point and one to three digits, the last not zero"
    time "2024-03-01T06:00:00.12Z" 6 0x01 0xD4 0xC0 ∷
    no_time "2024-03-01T06:00:00.120Z" ∷
    no_time "2024-03-01T06:00:00.120000Z" ∷
    []

-- a file with this end of its namespace and these names of its body and part; a statement, a report
abbrev pub of_kind : String → String → String → List ℕ → List ℕ
of_kind n b p rest = message_text n b p "2024-03-01T06:00:00Z" "M1" rest

abbrev pub booked : List ℕ → List ℕ
booked rest = of_kind "053.001.08" "BkToCstmrStmt" "Stmt" rest

abbrev pub intraday : List ℕ → List ℕ
intraday rest = of_kind "052.001.08" "BkToCstmrAcctRpt" "Rpt" rest

-- an entry of this status, and its bytes by the status's place
abbrev pub entry : String → List ℕ
entry b =
    ascii "<Ntry><Amt Ccy=\"EUR\">5.00</Amt><CdtDbtInd>CRDT</CdtDbtInd><Sts><Cd>" ++ (ascii b
    ++ ascii "</Cd></Sts><BkTxCd><Domn><Cd>PMNT</Cd><Fmly><Cd>RCDT</Cd><SubFmlyCd>ESCT</SubFmlyCd></Fmly></Domn></BkTxCd></Ntry>")

abbrev pub entered : ℕ → List ℕ
entered b =
    0x17 ∷ 0x18 ∷ 0x45 ∷ 0x55 ∷ 0x52 ∷ 0x00 ∷ (big_endian 8 5 ++ (0x19 ∷ 0x01 ∷ 0x1B ∷ 0x1C ∷ b ∷ 0x22 ∷ 0x23 ∷
    0x24 ∷ 0x00 ∷ 0x04 ∷ (ascii "PMNT" ++ (0x25 ∷ 0x26 ∷ 0x00 ∷ 0x04 ∷ (ascii "RCDT" ++ (0x27 ∷ 0x00 ∷ 0x04 ∷ ascii "ESCT"))))))

-- a good report and the bytes of what stands after its account
abbrev pub reported : List ℕ → ℕ → List ℕ → Star
reported rest n x = good (intraday rest) n (pictured 2 six_o_clock (ascii "M1") x)

-- beside the starred ones: intraday reports, by document 02, section 5
unfoldable pub reports : List Star
reports =
    -- "Root child BkToCstmrAcctRpt with Rpt in place of Stmt", "Bal 0..n"; kind byte 2
    reported [] 42 [] ∷
    refused (booked []) (absent 15 153) ∷
    -- "with OPBD, CLBD, PRCD, ITBD"
    reported (balance "ITBD" "5.00") 68 (balanced 4 0 5) ∷
    refused (booked (balance "ITBD" "5.00")) (bad_value 18 235) ∷
    -- "Sts codes BOOK and PDNG"
    reported (entry "PDNG") 85 (entered 2) ∷
    refused (booked (balance "CLBD" "5.00" ++ entry "PDNG")) (bad_value 28 414) ∷
    -- "The namespace chooses the list"
    refused (of_kind "052.001.08" "BkToCstmrStmt" "Stmt" (balance "CLBD" "5.00")) (not_a_child 1 65) ∷
    refused (of_kind "054.001.08" "BkToCstmrStmt" "Stmt" (balance "CLBD" "5.00")) (wrong_root 0) ∷
    []
