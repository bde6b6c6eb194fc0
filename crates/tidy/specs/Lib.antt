-- The definitions of `tidy`.
-- what the program writes
pub mod Presents
