-- The laws of `value_kinds_stored`.
-- the end of a value by its kind is where its bytes end by the kind's test
pub mod Ended
