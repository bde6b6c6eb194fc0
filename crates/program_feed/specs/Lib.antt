-- The definitions of `program_feed`.
-- what a head asks for
pub mod Cases
