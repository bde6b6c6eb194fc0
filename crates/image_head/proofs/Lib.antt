-- What the proofs of `image_head` need.
-- the first bytes are a list's own
pub mod Heading
