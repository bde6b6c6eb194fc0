-- The definitions of `file_lane`.
-- what the lane has seen of a file
pub mod Seen
-- mirrors, which say how the code goes
pub mod mirror
