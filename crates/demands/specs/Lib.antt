-- The definitions of `demands`.
-- the three demands, each as one statement: read this first
pub mod Demands
-- what codes 12 and 9 say, by the relation
pub mod Causes
