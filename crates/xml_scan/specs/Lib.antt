-- The definitions of `xml_scan`.
-- what the answer says
pub mod Right
-- mirrors, which say how the code goes
pub mod mirror
