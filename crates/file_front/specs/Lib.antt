-- The definitions of `file_front`.
-- the front of a file
pub mod Opens
-- mirrors, which say how the code goes
pub mod mirror
