-- The laws of `value`.
-- the lookup of a text's characters is their class
pub mod Pages
-- examples of document 01 on values
pub mod Examples
-- the former and the present rule of date-times
pub mod Rules
-- raw text: its bytes, its characters, its blanks
pub mod raw
-- classes of characters, and loops over them
pub mod classes
-- numbers and amounts
pub mod numbers
-- days and moments
pub mod dates
-- the types together: which value a text spells, and that there is one
pub mod types
-- from bytes back: which bytes are a value's, and where it ends
pub mod stored
-- the bytes that a raw text gives
pub mod given
-- the text that is written for a value
pub mod script
