-- The definitions of `value_leaf`.
-- the raw text of a leaf spells a value with these bytes
pub mod Took
-- where a leaf's text ends, and how many bytes its value has
pub mod Leafed
-- mirrors, which say how the code goes
pub mod mirror
