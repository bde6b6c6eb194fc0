-- Of `image_reading`: mirrors, which say how the code goes.
-- a mirror: how a run begins
pub mod Front
