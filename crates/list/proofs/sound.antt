-- Of `list`: the computed test, and what it says of every row.
-- tests taken apart
pub mod Tests
-- what passes the computed test is sound
pub mod Sound
-- every row of a well-formed list
pub mod EachRow
