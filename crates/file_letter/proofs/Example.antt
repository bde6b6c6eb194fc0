-- Document 01's example, written; and the report of the same content. Assumes nothing.
use mathlib.Core.Path.{◌≡◌, refl}
use mathlib.Core.List.{◌++◌}
use Rattle.list_house.specs.House.{house, report}
use Rattle.text.specs.Bytes.{ascii}
use Rattle.list.specs.Listing.{row_at}
use Rattle.text_characters.specs.Utf8.{encode}
use Rattle.text.specs.Digits.{digits, in_digits, padded}
use Rattle.value.specs.script.Script.{fraction_for}
use Rattle.image.specs.Example.{whole}
use Rattle.file.specs.Stars.{statement}
use Rattle.file_letter.specs.Letter.{letter_of}

pub example_written : letter_of house whole ≡ statement "M1" "5"
unfolding letter_of house row_at whole encode digits in_digits padded fraction_for
example_written = refl

-- "Root child BkToCstmrAcctRpt with Rpt in place of Stmt", "the rest of the house list as it is"
pub report_written : letter_of report whole
    ≡ ascii "<Document xmlns=\"urn:iso:std:iso:20022:tech:xsd:camt.052.001.08\"><BkToCstmrAcctRpt><GrpHdr><MsgId>M1</MsgId><CreDtTm>2024-03-01T06:00:00Z</CreDtTm></GrpHdr>"
    ++ (ascii "<Rpt><Id>S1</Id><Acct><Id><Othr><Id>9</Id></Othr></Id></Acct><Bal><Tp><CdOrPrtry><Cd>CLBD</Cd></CdOrPrtry></Tp><Amt Ccy=\"EUR\">5</Amt>"
    ++ ascii "<CdtDbtInd>CRDT</CdtDbtInd><Dt><Dt>2024-02-29</Dt></Dt></Bal></Rpt></BkToCstmrAcctRpt></Document>")
unfolding letter_of report row_at whole encode digits in_digits padded fraction_for
report_written = refl
