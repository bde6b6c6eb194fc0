-- `from_text::spelled` meets its contract. Assumes nothing.
use Prim.Native.Nat.{◌-◌, ◌≤◌}
use lib.ListN.{length}
use Rattle.value.proofs.classes.References.{Here}
use Rattle.value.proofs.raw.Sizes.{Sized}
use Rattle.value_texts.proofs.from_text.spelled.Given as goal

abbrev pub invariant-loop-i : goal.invariant-loop-i
invariant-loop-i l = Here l.strict l.k l.s l.i l.n l.ink l.slash × Sized l.s l.i l.size × (l.n ≤ l.i)

abbrev pub decreases-loop-i : goal.decreases-loop-i
decreases-loop-i l = length l.s - l.i
