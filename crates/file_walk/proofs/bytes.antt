-- Of `file_walk`: the walk over bytes and tables does what the walk over events does.
-- in sound tables the numbers and tests over cells are those over the list
pub mod Sound
-- the attributes of a tag, by the places of its token
pub mod Own
-- the stack of levels in one list of numbers
pub mod Stack
-- a text and a tag over bytes and tables, as the walk over events meets them
pub mod Joint
-- where the walk stands, and what one step does there: the statements
pub mod Stands
-- one step does what the walk over events does
pub mod OneStep
-- the root's tag does so too, and what the walk over events finds is the first violation
pub mod Root
-- what a step that refuses nothing met, by the bytes
pub mod Known
