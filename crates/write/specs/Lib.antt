-- The definitions of `write`.
-- what the program writes
pub mod Sends
