-- What a reader must believe of `check`.
-- the types of leaves with the bytes of their values
pub mod Instance
-- which files are good, and their content
pub mod File
-- what `check` may answer, and what it leaves in the buffer
pub mod Checks
-- files that differ in schema hints alone
pub mod Hints
-- document 01's starred examples
pub mod Stars
