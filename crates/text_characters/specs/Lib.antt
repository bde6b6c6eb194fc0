-- The definitions of `text_characters`.
-- well-formed UTF-8 and its longest prefix
pub mod Utf8
-- XML characters and entities
pub mod Pieces
-- one character at the front of a text
pub mod Chars
-- texts whose characters pass a test
pub mod Passing
-- mirrors, which say how the code goes
pub mod mirror
