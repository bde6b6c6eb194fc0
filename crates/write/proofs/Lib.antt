-- The laws of `write`.
-- what is written, case by case
pub mod Sending
