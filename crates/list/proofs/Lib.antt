-- The laws of `list`.
-- a table over 256 rows says the same list
pub mod Laid
-- a list within another
pub mod Within
-- a list that is another but for some rows
pub mod Changed
-- what has no row that is gone meets the narrower list
pub mod Retired
-- the rows of a list and the cells that say them
pub mod rows
-- the computed test, and what it says of every row
pub mod sound
-- the words of a row's text
pub mod words
