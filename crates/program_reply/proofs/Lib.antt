-- The laws of `program_reply`.
-- a line, piece by piece
pub mod Replies
