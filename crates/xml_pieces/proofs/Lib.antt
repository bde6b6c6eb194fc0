-- The laws of `xml_pieces`.
-- over a construct, a byte at a time, and that only one answer fits
pub mod Overs
-- given bytes
pub mod Words
-- a piece read a byte at a time is gone over
pub mod Readings
-- characters and entities, by their bytes
pub mod Pieces
-- rows of `]`
pub mod Rows
-- runs by a table
pub mod Lookups
