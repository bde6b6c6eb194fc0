-- The laws of `program_feed`.
-- a head, number by number, and what it asks for
pub mod Heads
