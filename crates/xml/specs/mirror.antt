-- Of `xml`: mirrors, which say how the code goes.
-- a mirror: the automaton that reads house XML a byte at a time
pub mod Auto
