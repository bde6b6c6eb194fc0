-- The laws of `demands`.
-- each demand holds
pub mod Demands
-- what codes 12 and 9 say
pub mod Causes
-- row 35 once, and never named by 8
pub mod Domain
