-- Of `text`: mirrors, which say how the code goes.
-- a mirror: the zeros at the end of a number, by bytes
pub mod Zeros
