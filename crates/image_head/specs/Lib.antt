-- The definitions of `image_head`.
-- the first bytes of an image
pub mod Head
