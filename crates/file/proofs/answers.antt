-- Of `file`: which answer fits a file and a buffer: one, and only one.
-- only one answer fits
pub mod One
-- some answer fits every file and every buffer
pub mod Some
-- the codes of violations
pub mod Codes
-- codes 1 and 2
pub mod Early
-- a refusal leaves every byte; accepted exactly when good
pub mod Accepted
-- all of it for document 01's types and the list that a file chooses
pub mod House
