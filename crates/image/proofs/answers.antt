-- Of `image`: what the reader and the picker may answer.
-- one answer only; bytes after the first image
pub mod One
-- what is not missing is found
pub mod Some
-- how many items are counted
pub mod Count
-- where a picked part stands
pub mod There
-- how images begin
pub mod Heads
