-- `tables::pool` meets its contract. Assumes nothing.
-- Written by tools/lists/make.
use mathlib.Core.Path.{refl}
use Rattle.list_house.specs.mirror.HouseTable.{house_pool}
use Rattle.list_house.proofs.tables.pool.Goals as goal

pub returns : goal.returns
unfolding house_pool
returns c = refl
