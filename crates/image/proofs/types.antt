-- Of `image`: document 01's values in images.
-- document 01's values are lawful
pub mod Lawful
-- how many bytes a value has
pub mod Sizes
-- document 01's example
pub mod Example
