-- Of `value_lane`: mirrors, which say how the code goes.
-- a mirror: how an account number begins
pub mod Fronts
