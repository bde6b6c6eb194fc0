-- Of `value`: mirrors, which say how the code goes.
-- a mirror: references and texts in one pass
pub mod Texts
-- a mirror: the characters of texts, looked up
pub mod Pages
-- a mirror: digits at the front of a text
pub mod Digits
-- a mirror: the places of an account number
pub mod Layout
-- a mirror: how amounts are read
pub mod Reading
-- a mirror: tests of lists
pub mod Tests
-- a mirror: bytes as characters
pub mod Chars
-- a mirror: which bytes are a value's
pub mod Judges
-- a mirror: where a value ends, by the number of its kind
pub mod Ends
-- a mirror: the bytes of a text, put after its length
pub mod Puts
-- a mirror: the bytes between entities
pub mod Runs
-- a mirror: what is written for the bytes of a value
pub mod Stored
