-- Of `image`: images and contents, over any list and any types.
-- what the theory uses of a well-formed list
pub mod Rows
-- a group's rows, whole and step by step
pub mod Levels
-- what each row still takes
pub mod Derive
-- every row can be completed
pub mod Live
-- items that begin some content
pub mod Begins
-- images tell contents apart
pub mod Prefix
-- demand 3 in its own words
pub mod Images
-- over a list within another
pub mod Within
-- what the reader answers item by item is what is defined
pub mod Stops
-- how many items are taken
pub mod Taken
