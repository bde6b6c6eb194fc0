-- `spaces::report_space` meets its contract. Assumes nothing.
-- Written by tools/lists/make.
use mathlib.Core.Path.{refl}
use Rattle.file_front.specs.mirror.Spaces.{report_space}
use Rattle.file_front.proofs.spaces.report_space.Goals as goal

pub returns : goal.returns
unfolding report_space
returns c = refl
