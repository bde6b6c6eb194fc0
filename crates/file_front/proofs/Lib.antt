-- The laws of `file_front`: from what its calls tell to the front of a file.
-- a list put together from parts, and one part more
pub mod Joining
-- values in quotes
pub mod Valuing
-- the root's attributes, one after the other
pub mod Bearing
-- the root's tag
pub mod Opening
