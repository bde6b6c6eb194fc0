-- Of `list`: the rows of a list and the cells that say them.
-- a cell, by where it stands
pub mod Cells
-- the first number that passes, how often a row occurs, row order
pub mod Words
-- the cells of a row are the row's
pub mod Rows
-- the numbers for counts and kinds, as code tests them
pub mod Codes
-- the next child, and the next required one
pub mod Next
-- a child by its name
pub mod Child
-- in sound tables the lookups answer as the definitions
pub mod Along
-- the level of a row
pub mod Levels
-- a rule's two rows name each other
pub mod Rules
