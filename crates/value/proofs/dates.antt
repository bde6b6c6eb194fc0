-- Of `value`: days and moments.
-- days and moments: their characters
pub mod Dates
-- the lengths of months, and the test of a real day
pub mod Months
-- moments as they stand, and by parts
pub mod Texts
-- digits at the front of a text, days, moments, as the code reads them
pub mod Fronts
-- days and moments, read by the decision
pub mod Spell
