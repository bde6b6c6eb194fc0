-- Of `value_levels`: mirrors, which say how the code goes.
-- a mirror: classes of bytes as levels
pub mod Levels
-- a mirror: the bytes of a text that stand for themselves
pub mod Runs
