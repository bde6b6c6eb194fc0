-- The definitions of `xml_pieces`.
-- what a function that goes over a construct answers
pub mod Over
-- the constructs: pieces, given bytes, rows of `]`, runs by a table
pub mod Kinds
-- mirrors, which say how the code goes
pub mod mirror
