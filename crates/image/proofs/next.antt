-- Of `image`: which row may come next, by the tables.
-- what the code finds in sound tables
pub mod Step
-- one turn of the loops that go up from a row
pub mod Upward
-- what sound tables say is the list's
pub mod Lines
