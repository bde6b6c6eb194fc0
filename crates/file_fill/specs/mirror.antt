-- Of `file_fill`: mirrors, which say how the code goes.
-- a mirror: the text of a leaf
pub mod Copying
-- a mirror: the pass that writes
pub mod Fills
