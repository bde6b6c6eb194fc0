-- `slow::is_cut` meets its contract: no `]]>` begins before `i`. Assumes nothing.
use Rattle.value_leaf.proofs.Ends.{Passed}
use Rattle.value_leaf.proofs.slow.is_cut.Given as goal

abbrev pub invariant-loop-i : goal.invariant-loop-i
invariant-loop-i l = Passed l.t l.i
