-- Of `value`: decisions: what a text spells, computed.
-- a decision: the value that characters spell, computed
pub mod Spell
-- a decision: the characters that a raw text spells, computed
pub mod Resolved
-- a mirror: blanks at both ends
pub mod Trim
