-- Of `list`: mirrors, which say how the code goes.
-- how the lookups go
pub mod Lookup
