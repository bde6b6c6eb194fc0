-- The laws of `file_nodes`: from a run over bytes to a good file.
-- how many levels are left below a row
pub mod Rooms
-- what is left of a message, and what one turn puts before it
pub mod Laning
-- a leaf's text, and attributes
pub mod Texting
-- a run over a list's nodes is what is left of a message
pub mod Running
-- a run taken apart by what stands in the text
pub mod Inverting
-- a run after the root's tag is a good file
pub mod Ending
-- nodes that pass a computed test say their list
pub mod Fitted
-- a table that passes a computed test has a list's nodes
pub mod Tabling
-- all of it for document 01's types and each list of files
pub mod House
