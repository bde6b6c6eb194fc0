-- The laws of `file_answers`.
-- what is answered, case by case
pub mod Answering
