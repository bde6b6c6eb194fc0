-- Of `value`: the same by parts, as the proofs go.
-- the forms of a text, a case for each type
pub mod Form
-- the same by both rules, and the amounts, by parts
pub mod Former
pub mod Numeral
