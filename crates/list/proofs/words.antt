-- Of `list`: the words of a row's text.
-- the words of a text
pub mod Split
-- the place of a word
pub mod Places
