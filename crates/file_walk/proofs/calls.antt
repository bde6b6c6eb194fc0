-- Of `file_walk`: what the code's calls told, by the mirrors.
-- one step over bytes and tables, from what the code's calls told
pub mod Step
-- the root's tag over bytes and tables, from what the code's calls told
pub mod Root
-- the walk over a whole text at once
pub mod Whole
