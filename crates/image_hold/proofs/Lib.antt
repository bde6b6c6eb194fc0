-- The laws of `image_hold`.
-- images laid end to end
pub mod Division
-- the reader that holds its run
pub mod Holding
