-- The laws of `xml`.
-- blanks, and names that differ
pub mod Basics
-- `]]>` by tests
pub mod Cuts
-- `]]>` by counting brackets
pub mod Runs
-- a piece by its bytes
pub mod Pieces
-- what each state of the automaton still takes
pub mod Lang
-- the automaton over the bytes of a good tree
pub mod Forward
-- `render c ++ u` without reassociation
pub mod Render
-- the automaton takes house XML, and its first dead step is the longest viable beginning
pub mod Theorem
-- bytes of text over which a scanner may jump
pub mod Jump
-- one tree for each text
pub mod Unique
-- house XML is UTF-8
pub mod Coded
-- worked examples
pub mod Examples
