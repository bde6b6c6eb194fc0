-- Of `file_lane`: mirrors, which say how the code goes.
-- a mirror: one turn
pub mod Turn
-- a mirror: the invariant of the loop
pub mod Leads
