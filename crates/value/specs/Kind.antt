-- The numbers that stand for types in a table's columns. Assumes nothing.
use Rattle.std.specs.Prelude.{◌≡◌, ℕ, length}
use Rattle.list.specs.Listing.{Leaf, ref, iban, ccy, bool, num, amt, date, dtm, txt, enum}
use Rattle.list.specs.tables.Columns.{REF, TXT, IBAN, CCY, ENUM, BOOL, NUM, AMT, DATE, DTM}

abbrev pub code : Leaf → ℕ
code ref = REF
code (txt k) = TXT
code iban = IBAN
code ccy = CCY
code (enum ws) = ENUM
code bool = BOOL
code num = NUM
code amt = AMT
code date = DATE
code dtm = DTM

-- k is TXTk's, n the number of an ENUM's words; of the others they say nothing
abbrev pub Given : Leaf → ℕ → ℕ → Type 0
Given ref k n = Unit {0}
Given (txt m) k n = k ≡ m
Given iban k n = Unit {0}
Given ccy k n = Unit {0}
Given (enum ws) k n = n ≡ length ws
Given bool k n = Unit {0}
Given num k n = Unit {0}
Given amt k n = Unit {0}
Given date k n = Unit {0}
Given dtm k n = Unit {0}
