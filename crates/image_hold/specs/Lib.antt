-- The definitions of `image_hold`, and the mirrors of its code.
-- what a reader that holds its run answers
pub mod Held
