-- The laws of `tidy`.
-- what is written, case by case
pub mod Presenting
