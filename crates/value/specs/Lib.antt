-- The definitions of `value`: a kind of value has a file; Value puts them together.
-- values, which text spells which, and their bytes
pub mod Value
-- the former and the present rule of date-times
pub mod Rules
-- what a judgement of a text says
pub mod Judged
-- the numbers of types in a table
pub mod Kind
-- where the parts of a value stand
pub mod Places
-- the laws of values, as one record
pub mod Laws
-- mirrors, which say how the code goes
pub mod mirror
-- the values that some text spells by a date-time rule
pub mod Spelled
-- the types, a file for each or for some
pub mod types
-- the same by parts, as the proofs go
pub mod parts
-- decisions: what a text spells, computed
pub mod decided
-- the bytes of a value, and where they stand in a buffer
pub mod given
-- the text that is written for a value
pub mod script
