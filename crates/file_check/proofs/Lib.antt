-- What the proofs of `file_check` share.
-- check's answers, from what its calls told
pub mod Checking
-- where the pass that writes stands, and what each turn adds
pub mod Going
-- the same with document 01's types
pub mod House
-- the search for a child that there is
pub mod Around
