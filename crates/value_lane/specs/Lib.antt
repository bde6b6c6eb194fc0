-- The definitions of `value_lane`.
-- mirrors, which say how the code goes
pub mod mirror
