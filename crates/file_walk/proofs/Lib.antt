-- What the proofs of `file_walk` share.
-- the root's attributes one after the other
pub mod Carrying
-- the first violation of a message, and who has none
pub mod violation
-- the walk over events, with a level for each open element
pub mod events
-- what the code's calls told, by the mirrors
pub mod calls
-- the walk over bytes and tables does what the walk over events does
pub mod bytes
