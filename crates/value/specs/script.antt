-- Of `value`: the text that is written for a value.
-- the one text of a value
pub mod Script
-- the bytes of characters in text
pub mod Raw
