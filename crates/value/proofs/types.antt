-- Of `value`: the types together: which value a text spells, and that there is one.
-- the laws of values, all kinds together
pub mod Values
-- what is spelt, by its value and its wording, and by the forms of what is left
pub mod Shaped
-- types by their numbers
pub mod Numbered
-- judgements by kind are right
pub mod Rights
-- the decision finds exactly the value that characters spell
pub mod Spell
-- no second answer fits the promises
pub mod Ones
