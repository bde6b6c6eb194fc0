-- Of `xml_scan`: mirrors, which say how the code goes.
-- a mirror: the table of classes
pub mod Classes
-- a mirror: what the scanner's functions say of the automaton
pub mod Goes
-- a mirror: what the functions over tags say
pub mod Tags
