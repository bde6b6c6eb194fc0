-- The laws of `value_leaf`.
-- where a text ends, and `]]>` in it
pub mod Ends
-- how many bytes a value has, told
pub mod Weighing
-- a leaf whose text was weighed is taken; no second answer fits
pub mod Taking
