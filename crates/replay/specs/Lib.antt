-- The definitions of `replay`.
-- the line that answers a case
pub mod Replies
