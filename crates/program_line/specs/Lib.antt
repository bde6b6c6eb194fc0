-- The definitions of `program_line`.
-- the line of an answer
pub mod Line
-- bytes in hexadecimal
pub mod Hex
