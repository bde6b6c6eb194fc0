-- The laws of `file_lane`: from what its calls tell to what is known of a file.
-- the loop's invariant, turn by turn
pub mod Going
-- a chunk whose low bytes are a word's
pub mod Chunks
-- a word that is compared under masks
pub mod Masking
-- the first tag that is matched
pub mod Seeking
-- no value has many bytes
pub mod Few
-- what one turn meets
pub mod Turning
-- the loop over a table
pub mod Looping
-- what is known of a file
pub mod Knowing
