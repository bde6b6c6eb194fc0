-- `to_text::spread` meets its contract: what is left goes where it went when the loop began. Assumes nothing.
use Prim.Native.Nat.{◌-◌}
use lib.ListN.{length}
use Rattle.value.proofs.script.Escaping.{Spreading}
use Rattle.value_texts_put.proofs.to_text.spread.Given as goal

abbrev pub invariant-loop-at : goal.invariant-loop-at
invariant-loop-at l = Spreading l.t l.initial.out l.at l.out l.i l.to

abbrev pub decreases-loop-at : goal.decreases-loop-at
decreases-loop-at l = length l.t - l.i
