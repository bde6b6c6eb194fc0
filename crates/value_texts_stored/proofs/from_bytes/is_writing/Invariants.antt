-- `from_bytes::is_writing` meets its contract. Assumes nothing.
use Rattle.std.proofs.Common.{◌-◌, length}
use Rattle.value.proofs.stored.texts.Writings.{Passing}
use Rattle.value_texts_stored.proofs.from_bytes.is_writing.Given as goal

abbrev pub invariant-loop-i : goal.invariant-loop-i
invariant-loop-i l = Passing l.b l.i l.more

abbrev pub decreases-loop-i : goal.decreases-loop-i
decreases-loop-i l = length l.b - l.i
