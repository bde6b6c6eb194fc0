-- The laws of `image_items`.
-- one item of an image
pub mod Standing
-- the items of an image one after the other
pub mod Walking
