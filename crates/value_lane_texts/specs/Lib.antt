-- The definitions of `value_lane_texts`.
-- mirrors, which say how the code goes
pub mod mirror
