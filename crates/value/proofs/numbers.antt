-- Of `value`: numbers and amounts.
-- numbers, digit by digit
pub mod Naturals
-- amounts: reading finds exactly the value that a text writes
pub mod Decimals
-- the steps of reading an amount, and its answer
pub mod Amounts
-- amounts as they stand, and by parts
pub mod Numerals
