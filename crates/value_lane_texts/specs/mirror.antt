-- Of `value_lane_texts`: mirrors, which say how the code goes.
-- a mirror: what was read of a text
pub mod Going
