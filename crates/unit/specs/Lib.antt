-- The definitions of `unit`; what check may answer is in `file`, what an item says in `image_items`.
-- what the export of a pick for C answers
pub mod Exports
