-- What the proofs of `file_measure` share.
-- the first bytes of an image
pub mod Head
-- where a pass stands, and what each step adds
pub mod Going
-- what is put at the beginning and at the end of an element
pub mod Leaf
-- the bytes of a leaf's value
pub mod Value
-- what a whole pass says
pub mod End
-- a currency by its raw bytes
pub mod Coin
-- a pass with document 01's types
pub mod House
-- an answer, from what the calls told
pub mod Finds
