-- `class::quiets` meets its contract: how many were of TEXT so far. Assumes nothing.
use Rattle.value_levels.specs.mirror.Levels.{reaches}
use Rattle.value_levels.proofs.Levels.{Counted}
use Rattle.value_levels.proofs.class.quiets.Given as goal

abbrev pub invariant-loop-b : goal.invariant-loop-b
invariant-loop-b l = Counted (reaches 1) l.s l.at l.b-index l.n
