-- The definitions of `value_levels`.
-- mirrors, which say how the code goes
pub mod mirror
