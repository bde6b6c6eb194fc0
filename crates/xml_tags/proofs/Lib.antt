-- The laws of `xml_tags`.
-- bytes passed at once
pub mod Passing
-- a text or a value holds no byte that ends it
pub mod Avoid
-- attributes, one and all: on any bytes, and of a tree
pub mod Attributes
-- a text, and a tag
pub mod Tokens
-- the mirrors at a place of any text, from what the code's calls told
pub mod Steps
-- parts of a text by their places
pub mod Slices
-- where the root begins
pub mod Start
-- texts, elements and end tags at a place of a text: what the cursor answers, and what stands after
pub mod Elements
-- a text's characters one by one, and its first ink
pub mod Texts
-- of a good tree's text the cursor tells its message
pub mod Story
-- only one message is told of a text
pub mod One
