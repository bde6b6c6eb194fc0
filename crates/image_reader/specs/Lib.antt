-- The definitions of `image_reader`.
-- what is told by what is handed back
pub mod Taken
