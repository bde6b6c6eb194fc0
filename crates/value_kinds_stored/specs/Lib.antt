-- The definitions of `value_kinds_stored`.
-- where bytes at a place end, by a test of them
pub mod Ended
