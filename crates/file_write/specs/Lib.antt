-- The mirrors of `file_write`; what it promises is in `file_letter`.
-- mirrors, which say how the code goes
pub mod mirror
