-- `fill::seek` meets its contract: a run from the start is a run from here. Assumes nothing.
use mathlib.Core.List.{List}
use Prim.Native.Nat.{ℕ, ◌-◌}
use lib.ListN.{length}
use Rattle.file_fill.specs.mirror.Fills.{StandsAt}
use Rattle.file_fill.proofs.fill.seek.Given as goal

abbrev pub invariant-loop-n : goal.invariant-loop-n
invariant-loop-n l = (bs : List ℕ) → StandsAt l.nodes l.s l.from l.at bs → StandsAt l.nodes l.s l.n l.at bs

abbrev pub decreases-loop-n : goal.decreases-loop-n
decreases-loop-n l = length l.nodes - l.n
