-- The laws of `list_house`.
-- the house list is what its constants say
pub mod HouseSound
-- the kind of a row is what the table's column says
pub mod HouseKind
-- a `match` on a number, each arm a computed test
pub mod Arms
-- what files are asked lies within what images keep to
pub mod Lists
-- what the lists of files have given up
pub mod Retired
