-- The laws of `value_levels`.
-- levels of bytes, and over the bytes of one
pub mod Levels
-- over the bytes of a text that stand for themselves
pub mod Passing
