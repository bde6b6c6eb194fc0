-- `lookup::is_space` meets its contract. Assumes nothing.
use Rattle.list.specs.tables.Table.{list_of}
use Rattle.list.proofs.lookup.is_space.Goals as goal

pub returns : goal.returns
unfolding list_of
returns c = rw (← c.named_part.ensures) c.same.ensures
