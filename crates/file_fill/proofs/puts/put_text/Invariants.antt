-- `puts::put_text` meets its contract: what is done stands in the buffer, and what is left comes. Assumes nothing.
use Prim.Native.Nat.{◌-◌}
use lib.ListN.{length}
use Rattle.file_fill.proofs.Copying.{Going}
use Rattle.file_fill.proofs.puts.put_text.Given as goal

abbrev pub invariant-loop-out : goal.invariant-loop-out
invariant-loop-out l = Going l.s l.initial.out l.at l.to l.out l.from l.o

abbrev pub decreases-loop-out : goal.decreases-loop-out
decreases-loop-out l = length l.s - l.from
