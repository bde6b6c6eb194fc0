-- `class::quiet` meets its contract. Assumes nothing.
use Rattle.value_levels.proofs.Levels.{quiet_told}
use Rattle.value_levels.proofs.class.quiet.Goals as goal

pub returns : goal.returns
returns c = quiet_told _
