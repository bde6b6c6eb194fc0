-- The definitions of `program_outcome`.
-- what a program writes for an answer
pub mod Outcome
