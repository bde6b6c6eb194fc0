-- The laws of `replay`.
-- the line for a case, op by op
pub mod Replying
