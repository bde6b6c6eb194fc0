-- The answer as a caller in C has it. Assumes nothing.
use Rattle.std.specs.Prelude.{ℕ}
use Rattle.answer.specs.declared.Answer.{Answer}
use Rattle.answer.specs.Table.{answer}

-- the answer that a caller in C has: the code is the result, the row and the place stand in the lent numbers of these names
abbrev pub handed : ℕ → ℕ → ℕ → Answer
handed code row place = answer code row place
