-- The definitions of `image`, and the mirrors of its code.
-- the image of a content
pub mod Image
-- the values of document 01
pub mod Kinds
-- what the reader answers
pub mod Place
-- how many items the reader takes
pub mod Count
-- what the picker answers and hands back
pub mod Pick
-- what both answer over tables that say a well-formed list
pub mod Means
-- document 01's example
pub mod Example
-- mirrors, which say how the code goes
pub mod mirror
