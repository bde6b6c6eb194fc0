-- The definitions of `xml_tags`.
-- a message in document order, and what a cursor that goes from token to token tells of a text
pub mod Story
-- the places of a tag and of an attribute of a tree
pub mod Places
-- whether a byte stands next, up to the next one, past it
pub mod Marks
-- mirrors, which say how the code goes
pub mod mirror
