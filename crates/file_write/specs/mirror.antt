-- Of `file_write`: mirrors, which say how the code goes.
-- a mirror: the tags of a row
pub mod Tags
-- a mirror: a leaf's element, and what the pass puts
pub mod Emit
-- a mirror: the first item that no file may say any more
pub mod Stale
-- a mirror: what a writer puts
pub mod Writer
