-- Of `list`: a list as two tables.
-- a list as two tables of numbers
pub mod Table
-- the columns of a table, and the numbers of kinds
pub mod Columns
-- a table over 256 rows
pub mod Laid
-- tables that say a well-formed list, and what follows from it
pub mod Sound
-- soundness as one computed test
pub mod Test
-- kinds by their numbers
pub mod Numbers
-- what the lookups answer in such tables
pub mod Means
