-- The theorems about what `check` may answer.
-- the list that a message's namespace chooses
pub mod Chosen
-- demand 3 and reading back, for what check writes
pub mod Images
-- files that differ in schema hints alone have one content
pub mod Hints
-- an image is no longer than its file
pub mod Short
-- what callers of check need of its answers
pub mod Rooms
-- a computed test for good trees
pub mod Trees
-- document 01's starred examples
pub mod Stars
-- which answer fits a file and a buffer: one, and only one
pub mod answers
