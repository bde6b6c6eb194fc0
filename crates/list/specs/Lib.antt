-- The definitions of `list`.
-- how often a row occurs, row order, the first number that passes a test
pub mod Words
-- a list: rows, kinds, counts, rules, namespace
pub mod Listing
-- what a well-formed list keeps to
pub mod WellFormed
-- contents, and what a list asks of one
pub mod Content
-- a list within another
pub mod Within
-- a list that is another but for some rows; rows that are gone
pub mod Changed
-- what well-formedness says of a single row
pub mod EachRow
-- mirrors, which say how the code goes
pub mod mirror
-- a list as two tables
pub mod tables
