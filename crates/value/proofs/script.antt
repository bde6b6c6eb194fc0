-- Of `value`: the text that is written for a value.
-- the text of a value spells it, so a type has exactly the values that some text spells
pub mod Scripts
-- bytes, three of them by entities
pub mod Escaping
-- days and moments, piece by piece
pub mod Moments
-- what is written, kind by kind
pub mod Writing
-- what is written for the bytes of a value is its text
pub mod Meaning
