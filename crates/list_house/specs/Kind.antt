-- The kind of a row as the number that stands for it in a table's column (Table). Assumes nothing.
use Rattle.std.specs.Prelude.{ℕ}
use Rattle.list.specs.Listing.{ref, iban, ccy, bool, num, amt, date, dtm, txt, enum, Kind, group, choice, leaf, row_at}
use Rattle.list_house.specs.House.{house}
use Rattle.list.specs.tables.Columns.{GROUP, CHOICE, REF, TXT, IBAN, CCY, ENUM, BOOL, NUM, AMT, DATE, DTM}

abbrev pub number_of : Kind → ℕ
number_of group = GROUP
number_of choice = CHOICE
number_of (leaf ref) = REF
number_of (leaf (txt k)) = TXT
number_of (leaf iban) = IBAN
number_of (leaf ccy) = CCY
number_of (leaf (enum ws)) = ENUM
number_of (leaf bool) = BOOL
number_of (leaf num) = NUM
number_of (leaf amt) = AMT
number_of (leaf date) = DATE
number_of (leaf dtm) = DTM

-- of row r of the house list; where there is no such row, that of a group
abbrev pub house_kind : ℕ → ℕ
house_kind r = number_of (row_at house r).kind
