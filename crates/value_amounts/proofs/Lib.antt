-- The laws of `value_amounts`.
-- only one result and one buffer fit what is written of an amount
pub mod Once
