-- Of `value`: raw text: its bytes, its characters, its blanks.
-- texts by their bytes
pub mod Encoding
-- texts that no entity stands in are their own raw text
pub mod Raw
-- blanks at both ends
pub mod Trim
-- blanks at both ends, taken by the decision
pub mod TrimDecided
-- parts of a list, and the part without blanks
pub mod Parts
-- texts that have no blank and no entity
pub mod Firm
-- the characters that a raw text spells, decided; three capitals spell themselves
pub mod Resolved
-- the bytes of the characters of a raw text
pub mod Sizes
-- a run of characters that are one byte each
pub mod Quiet
