-- Of `xml_pieces`: mirrors, which say how the code goes.
-- a mirror: a piece read a byte at a time
pub mod Reading
