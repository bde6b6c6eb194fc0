-- The laws of `program_outcome`.
-- what is written, as a part of the buffer
pub mod Outcomes
