-- The definitions of `list_house`.
-- the house list
pub mod House
-- the kind of a row, as a number
pub mod Kind
-- the lists of files and of images
pub mod Lists
-- mirrors, which say how the code goes
pub mod mirror
