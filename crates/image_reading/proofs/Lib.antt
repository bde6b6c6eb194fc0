-- The laws of `image_reading`.
-- the first bytes of a run
pub mod Heads
-- what the code finds is what is defined, and nothing else is
pub mod House
-- document 01's example
pub mod Example
