-- The definitions of `image_picker`.
-- where a value stands
pub mod Values
