-- The definitions of `file_measure`; what it may answer is in `file`.
-- what the walk over the bytes says
pub mod Measured
-- one pass over a message, whether it counts or writes
pub mod Pass
-- what measuring tells
pub mod Measures
-- mirrors, which say how the code goes
pub mod mirror
