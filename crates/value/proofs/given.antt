-- Of `value`: the bytes that a raw text gives.
-- a value's parts put one after the other
pub mod Putting
-- the bytes between entities
pub mod Running
-- a raw text gives one list of bytes
pub mod Unique
-- what a judgement says of the bytes
pub mod Judging
-- what a caller has of the promises
pub mod Theorems
