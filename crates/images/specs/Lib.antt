-- The definitions of `images`.
-- what the program writes
pub mod Divides
