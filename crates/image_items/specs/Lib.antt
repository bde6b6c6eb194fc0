-- The definitions of `image_items`.
-- one item of an image
pub mod Items
