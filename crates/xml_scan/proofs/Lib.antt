-- The laws of `xml_scan`.
-- what comes of a text from a place and a state on
pub mod Fate
-- constructs one after the other
pub mod Goes
-- what the functions of `xml_pieces` say of the automaton
pub mod Passed
-- the table of classes
pub mod Classes
-- text between tags
pub mod Text
-- start tags after their name
pub mod Tags
-- elements within elements
pub mod Nesting
-- what stands before the first element
pub mod Before
-- the scanner's answer, and that no other fits
pub mod Answers
-- names, of elements and of attributes
pub mod names
