-- The definitions of `answer`.
-- document 01's table of codes, rows and places
pub mod Table
-- the answer as a caller in C has it
pub mod Handed
