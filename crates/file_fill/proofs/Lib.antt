-- The laws of `file_fill`: from what the lane has seen of a file to its image in a buffer.
-- the text of a leaf, put
pub mod Copying
-- the value of a leaf, put by its kind
pub mod Laying
-- the nodes as the pass takes them
pub mod Ways
-- the pass, turn by turn
pub mod Filling
-- what it leaves is the file's image
pub mod Imaging
