-- `lookup::first_named` meets its contract. Assumes nothing.
use Rattle.std.proofs.Common.{◌≡◌, ◌-◌}
use Rattle.list.specs.mirror.Lookup.{along}
use Rattle.list.proofs.lookup.first_named.Given as goal

abbrev pub invariant-loop : goal.invariant-loop
invariant-loop l = along l.rows l.pool l.name (255 - l.counter) l.r ≡ along l.rows l.pool l.name 255 l.fn.from
