-- The laws of `images`.
-- a run divided, image by image
pub mod Dividing
