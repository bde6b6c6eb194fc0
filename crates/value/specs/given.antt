-- Of `value`: the bytes of a value, and where they stand in a buffer.
-- the bytes of the value that a raw text spells, and what is written of them
pub mod Giving
-- what stands in a buffer once the bytes of a value were put there
pub mod Wrote
-- where a stored value ends
pub mod Stands
