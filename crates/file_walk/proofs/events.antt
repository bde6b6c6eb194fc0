-- Of `file_walk`: the walk over events, with a level for each open element.
-- the walk with a level for each open element finds the first violation
pub mod Machine
-- it hands out the items of the message's content
pub mod Items
-- what is told after a place, by the token there
pub mod Told
