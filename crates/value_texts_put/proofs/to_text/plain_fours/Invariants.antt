-- `to_text::plain_fours` meets its contract: what is still to come from `i` makes up the answer from `at`. Assumes nothing.
use mathlib.Core.Path.{◌≡◌}
use Prim.Native.Nat.{◌+◌, ◌-◌}
use lib.ListN.{length, drop}
use Rattle.text.specs.Lists.{span}
use Rattle.value.specs.script.Raw.{is_plain}
use Rattle.value_texts_put.proofs.to_text.plain_fours.Given as goal

abbrev pub invariant-loop-i : goal.invariant-loop-i
invariant-loop-i l = (l.last + 3 ≡ length l.t) × (l.i + span is_plain (drop l.i l.t) ≡ l.at + span is_plain (drop l.at l.t))

abbrev pub decreases-loop-i : goal.decreases-loop-i
decreases-loop-i l = length l.t - l.i
