-- Of `file_walk`: mirrors, which say how the code goes.
-- a mirror: the same walk over tags and characters, with a level for each open element
pub mod Machine
-- a mirror: its numbers and tests over the cells of two tables
pub mod Tables
-- a mirror: one step over bytes and tables
pub mod Stride
-- a mirror: the root's tag
pub mod Begin
