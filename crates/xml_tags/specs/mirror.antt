-- Of `xml_tags`: mirrors, which say how the code goes.
-- a mirror: which bytes the cursor passes in a tag
pub mod Passing
-- a mirror: how it passes attributes
pub mod Attributes
-- a mirror: how it passes a text and the tag after it
pub mod Tokens
-- a mirror: an opening tag whose attributes are not tested
pub mod Skimmed
