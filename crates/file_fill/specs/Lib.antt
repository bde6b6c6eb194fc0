-- The definitions of `file_fill`.
-- what the lane leaves in a buffer
pub mod Laned
-- mirrors, which say how the code goes
pub mod mirror
