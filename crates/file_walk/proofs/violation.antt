-- Of `file_walk`: the first violation of a message, and who has none.
-- first answers, tests
pub mod Answers
-- the opening tests one after the other
pub mod Opening
-- children that pass the opening tests one after the other
pub mod Steps
-- what it means that the tests of a tag find nothing
pub mod Tests
-- a leaf's attributes, and the root's
pub mod Attrs
-- a leaf's element, by its row's kind
pub mod Spells
-- it does not matter who judges which texts spell a value
pub mod Judges
-- a flag for rules
pub mod Rules
-- no violation exactly when some content meets the list; one content
pub mod Accept
-- the lowest required child that has not come
pub mod Due
-- the examples
pub mod Examples
