-- `spaces::house_space` meets its contract. Assumes nothing.
-- Written by tools/lists/make.
use mathlib.Core.Path.{refl}
use Rattle.file_front.specs.mirror.Spaces.{house_space}
use Rattle.file_front.proofs.spaces.house_space.Goals as goal

pub returns : goal.returns
unfolding house_space
returns c = refl
