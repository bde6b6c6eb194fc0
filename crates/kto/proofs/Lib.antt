-- The laws of `kto`.
-- what is written, case by case
pub mod Written
