-- The definitions of `xml`.
-- house XML: trees, their bytes, what a good tree keeps to, the longest viable beginning
pub mod House
-- what a tree holds, with places
pub mod Message
-- mirrors, which say how the code goes
pub mod mirror
