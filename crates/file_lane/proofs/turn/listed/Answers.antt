-- `turn::listed` meets its contract. Assumes nothing.
use mathlib.Core.Path.{refl}
use Rattle.file_lane.proofs.Turning.{listed_is}
use Rattle.file_lane.proofs.turn.listed.Goals as goal

pub returns : goal.returns
returns c = λ e. listed_is _ _ _ _ _ _ _ refl refl c.four-x.ensures e
