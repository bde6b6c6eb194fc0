-- `plain::sixteen` meets its contract: what was passed so far. Assumes nothing.
use mathlib.Core.Path.{◌≡◌}
use mathlib.Core.Bool.{true}
use Prim.Native.Nat.{◌+◌}
use Rattle.value_levels.specs.mirror.Runs.{is_plain, Over}
use Rattle.value_levels.proofs.plain.sixteen.Given as goal

abbrev pub invariant-loop-b : goal.invariant-loop-b
invariant-loop-b l = l.all ≡ true → Over is_plain l.s l.at (l.at + l.b-index)
