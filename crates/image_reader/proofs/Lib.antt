-- The laws of `image_reader`.
-- only one result fits
pub mod One
