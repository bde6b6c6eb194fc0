-- Of `value_leaf`: mirrors, which say how the code goes.
-- a mirror: bytes that are no tag's
pub mod Calm
