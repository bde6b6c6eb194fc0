-- The laws of `program_held`.
-- what a buffer holds, and a count in four bytes
pub mod Holding
