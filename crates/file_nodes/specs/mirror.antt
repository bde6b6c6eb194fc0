-- Of `file_nodes`: mirrors, which say how the code goes.
-- a mirror: a node in its table
pub mod Fields
-- a mirror: the numbers of a node
pub mod Kept
-- a mirror: the nodes of each list
pub mod Nodes
-- a mirror: the code's constants
pub mod Tables
-- a mirror: nodes and numbers by the kind byte
pub mod ByKind
