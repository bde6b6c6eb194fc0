-- The laws of `image`.
-- what the promises mean in sound tables
pub mod Meaning
-- images and contents, over any list and any types
pub mod content
-- what the reader and the picker may answer
pub mod answers
-- which row may come next, by the tables
pub mod next
-- the loops of the reader and the picker, turn by turn
pub mod loops
-- document 01's values in images
pub mod types
