-- The definitions of `file_check`; what it may answer is in `file`.
-- the pass that writes
pub mod Fill
