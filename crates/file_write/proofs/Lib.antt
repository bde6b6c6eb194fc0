-- The laws of `file_write`.
-- words and parts put one after the other
pub mod Putting
-- the closing tags
pub mod Closing
-- the tags are those that are told
pub mod Tagging
-- a leaf's element
pub mod Leafing
-- how long a value is
pub mod Widths
-- going over the items of an image
pub mod Standing
-- the pass over an image
pub mod Emitting
-- the first item that no file may say any more
pub mod Passing
-- what is written
pub mod Writing
