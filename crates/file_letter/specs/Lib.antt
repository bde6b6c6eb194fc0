-- The definitions of `file_letter`.
-- the tree that is written for a content
pub mod Letter
-- what a file may not say any more
pub mod Stale
-- what writing answers, and what it leaves in the buffer
pub mod Writes
-- what tidying answers, and what it leaves in the two buffers
pub mod Tidies
-- mirrors, which say how the code goes
pub mod mirror
