-- Of `file_front`: mirrors, which say how the code goes.
-- a mirror: the code's namespaces
pub mod Spaces
-- a mirror: values in quotes
pub mod Values
-- a mirror: the front of a file, and the attributes of its root's tag
pub mod Attributes
