-- Of `file_letter`: the tree that is written for a content.
-- the written file as a tree
pub mod Trees
-- of which characters a value's text is
pub mod Chars
-- the written tree is good
pub mod Good
-- the written message's content
pub mod Has
-- what is told is the tree
pub mod Telling
