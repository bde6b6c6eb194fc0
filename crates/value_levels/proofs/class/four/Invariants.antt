-- `class::four` meets its contract: what was passed so far. Assumes nothing.
use Prim.Native.Nat.{◌+◌}
use Rattle.value_levels.specs.mirror.Levels.{Leveled, Ran}
use Rattle.value_levels.proofs.class.four.Given as goal

abbrev pub invariant-loop-j : goal.invariant-loop-j
invariant-loop-j l = Leveled l.levels → Ran l.least l.s l.at (l.at + l.j)
