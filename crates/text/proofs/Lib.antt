-- The laws of `text`.
-- a class of bytes from facts on numbers, and back
pub mod Classes
-- how far a class reaches
pub mod Spans
-- lists and parts of lists, compared
pub mod Parts
-- a list written into another
pub mod Pasting
-- what a number writes, put from the last element on
pub mod Lasts
-- numbers as big-endian bytes, and back
pub mod Numbers
-- bytes put one after the other
pub mod Puts
-- decimal digits, one by one
pub mod Digits
-- bytes as a number, the first the least
pub mod Littles
-- the zeros at a number's end, by bytes
pub mod Zeros
-- eight bytes a turn
pub mod Eights
