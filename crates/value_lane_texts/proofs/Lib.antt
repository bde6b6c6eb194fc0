-- The laws of `value_lane_texts`.
-- texts and references, read run by run
pub mod Runs
