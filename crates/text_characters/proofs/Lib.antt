-- The laws of `text_characters`.
-- the first character of a text, for any signs
pub mod Chars
-- a character of UTF-8 is decoded right
pub mod Decoding
-- the longest beginning that is UTF-8
pub mod Longest
-- the next character is read right, entities resolved
pub mod Resolving
-- the characters that a text spells, one after the other, and loops over them
pub mod Spelling
-- characters that are written in one way only
pub mod Unmarked
