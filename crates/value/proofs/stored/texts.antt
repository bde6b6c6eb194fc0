-- Of `value`: texts: REF, TXTk, IBAN and CCY.
-- the classes of REF and TXT
pub mod Classes
-- CCY and IBAN, as tests of their characters
pub mod Codes
-- bytes as characters
pub mod Decoded
-- where slashes may stand
pub mod Slashes
-- REF, TXTk, IBAN and CCY
pub mod Texts
-- TXTk, character by character
pub mod Writings
