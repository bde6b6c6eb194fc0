-- The definitions of `file_answers`.
-- what writing answers, by what it found
pub mod Answers
