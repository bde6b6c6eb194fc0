-- The definitions of `file_nodes`.
-- a run over a text, by nodes
pub mod Run
-- nodes that say a list
pub mod Fitting
-- the nodes of a list
pub mod Entries
-- a run over all of a file
pub mod Ran
-- mirrors, which say how the code goes
pub mod mirror
