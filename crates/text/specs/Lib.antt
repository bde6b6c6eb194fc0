-- The definitions of `text`.
-- bytes by class
pub mod Bytes
-- words about lists of bytes
pub mod Lists
-- big-endian numbers
pub mod Numbers
-- bytes as a number, the first the least
pub mod Little
-- a word at the front of a text
pub mod Words
-- a list written into another
pub mod Pasting
-- bytes put one after the other
pub mod Puts
-- decimal digits
pub mod Digits
-- mirrors, which say how the code goes
pub mod mirror
