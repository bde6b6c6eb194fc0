-- The laws of `value_lane`.
-- account numbers, amounts and days that are just what spells the value
pub mod Firms
