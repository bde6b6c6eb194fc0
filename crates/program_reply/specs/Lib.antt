-- The definitions of `program_reply`.
-- the lines that answer a feed
pub mod Reply
