-- The definitions of `image_reading`, and the mirrors of its code.
-- what is answered over the lists of stored images
pub mod Reads
-- how a run begins, and what is told of its first image
pub mod Forms
-- mirrors, which say how the code goes
pub mod mirror
