-- Of `value`: from bytes back: which bytes are a value's, and where it ends.
-- tests of lists, and what they say
pub mod Listed
-- what it is that bytes are exactly those of a kind's values
pub mod Exactly
-- ENUM, BOOL and NUM
pub mod Plains
-- DATE and DTM
pub mod Days
-- AMT
pub mod Amounts
-- the numbers of kinds
pub mod Numbered
-- what the end of a value means, for a leaf of a list
pub mod Meaning
-- texts: REF, TXTk, IBAN and CCY
pub mod texts
