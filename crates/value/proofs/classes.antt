-- Of `value`: classes of characters, and loops over them.
-- what the classes say of numbers
pub mod Classes
-- the classes of references and texts
pub mod Named
-- laws over a class of bytes, computed
pub mod Computed
-- at least one not a space
pub mod Ink
-- a loop over a class, by place
pub mod Loops
-- account numbers and currencies, byte by byte
pub mod Codes
-- references and texts, character by character
pub mod References
