-- Of `image`: mirrors, which say how the code goes.
-- a mirror: which row may come directly after which
pub mod Follow
-- a mirror: the same as the code finds it in the tables
pub mod Step
-- a mirror: where an item ends
pub mod Ends
-- a mirror: the reader and the picker over a run
pub mod Run
-- a mirror: the reader item by item
pub mod Reader
