-- `image_order::climbs` meets its contract. Assumes nothing.
use mathlib.Core.Path.{◌≡◌}
use Prim.Native.Nat.{◌-◌}
use Rattle.image.specs.mirror.Step.{climbs}
use Rattle.image_order.proofs.climbs.Given as goal

abbrev pub invariant-loop : goal.invariant-loop
invariant-loop l = climbs l.rows (16 - l.counter) l.q l.x ≡ climbs l.rows 16 l.from l.x
