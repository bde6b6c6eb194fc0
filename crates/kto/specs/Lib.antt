-- The definitions of `kto`.
-- what the program writes
pub mod Says
-- the answer after it
pub mod Answered
