-- Of `list_house`: mirrors, which say how the code goes.
-- its tables
pub mod HouseTable
-- a mirror: the table of a list, by its kind byte
pub mod Rows
