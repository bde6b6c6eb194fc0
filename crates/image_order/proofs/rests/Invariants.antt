-- `image_order::rests` meets its contract. Assumes nothing.
use mathlib.Core.Path.{◌≡◌}
use Prim.Native.Nat.{◌-◌}
use Rattle.image.specs.mirror.Step.{rests}
use Rattle.image_order.proofs.rests.Given as goal

abbrev pub invariant-loop : goal.invariant-loop
invariant-loop l = rests l.rows (16 - l.counter) l.q ≡ rests l.rows 16 l.from
