-- `chars::put_chars` meets its contract: what is left goes where it went when the loop began. Assumes nothing.
use Prim.Native.Nat.{◌-◌}
use lib.ListN.{length}
use Rattle.value.proofs.given.Running.{Going}
use Rattle.value_kinds.proofs.chars.put_chars.Given as goal

abbrev pub invariant-loop-i : goal.invariant-loop-i
invariant-loop-i l = Going l.t l.initial.out l.initial.i l.initial.j l.out l.i l.j

abbrev pub decreases-loop-i : goal.decreases-loop-i
decreases-loop-i l = length l.t - l.i
