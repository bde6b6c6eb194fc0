-- What the proofs of `unit` share.
-- what the exports for C say of a read and a pick
pub mod Exporting
-- an answer of a pick and its part
pub mod Picking
