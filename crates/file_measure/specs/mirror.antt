-- Of `file_measure`: mirrors, which say how the code goes.
-- a mirror: the kind by the root's tag, and what is told
pub mod Choice
