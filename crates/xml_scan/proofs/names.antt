-- Of `xml_scan`: names, of elements and of attributes.
-- names that are held
pub mod Names
-- an attribute's name, which may hold a colon
pub mod FullNames
-- a name as the automaton reads it
pub mod Grown
-- attributes
pub mod Attributes
