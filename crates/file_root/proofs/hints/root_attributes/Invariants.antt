-- `hints::root_attributes` meets its contract. Assumes nothing.
use mathlib.Core.Path.{◌≡◌}
use Prim.Native.Nat.{◌-◌}
use Rattle.file_walk.specs.mirror.Begin.{nothing, carried_in}
use Rattle.file_root.proofs.hints.root_attributes.Given as goal

abbrev pub invariant-loop : goal.invariant-loop
invariant-loop l = carried_in l.rows l.pool l.s l.seen (l.count - l.counter) l.at ≡ carried_in l.rows l.pool l.s nothing l.count l.stop
