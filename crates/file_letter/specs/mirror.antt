-- Of `file_letter`: mirrors, which say how the code goes.
-- a mirror: how it is told, item by item
pub mod Tell
