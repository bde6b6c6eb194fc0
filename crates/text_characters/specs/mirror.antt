-- Of `text_characters`: mirrors, which say how the code goes.
-- a mirror: how a character is decoded
pub mod Decoding
-- a mirror: how the next character is read, entities resolved
pub mod Resolving
