-- The laws of `file_letter`.
-- document 01's example
pub mod Example
-- what a file may say, and what an image may hold
pub mod Meeting
-- the first item that a file may not say
pub mod Stale
-- what a stored content is to the list of files
pub mod Present
-- the written file is a file of its content
pub mod Files
-- what writing answers
pub mod Writing
-- what the programs need of it
pub mod Rooms
-- what tidying answers
pub mod Tidying
-- the tree that is written for a content
pub mod tree
