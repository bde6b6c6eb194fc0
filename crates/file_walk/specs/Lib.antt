-- The definitions of `file_walk`.
-- what the walk asks of the types of leaves
pub mod Types
-- the first violation of a message
pub mod First
-- which content a message has
pub mod Denotes
-- messages against the house list, with their first violations
pub mod Example
-- mirrors, which say how the code goes
pub mod mirror
