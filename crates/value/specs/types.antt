-- Of `value`: the types, a file for each or for some.
-- references and texts
pub mod Text
-- account numbers, currencies, listed words
pub mod Code
-- yes or no, numbers, and the loss of blanks at both ends
pub mod Plain
-- amounts, as rationals with the smallest scale
pub mod Amount
-- Gregorian days
pub mod Day
-- moments, by their written parts
pub mod Moment
