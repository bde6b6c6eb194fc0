-- `front::front` meets its contract. Assumes nothing.
use mathlib.Core.Path.{refl}
use Rattle.image_reading.proofs.House.{front_long, front_starts}
use Rattle.image_reading.proofs.front.front.Goals as goal

pub returns-then-run-gt-LIMIT : goal.returns-then-run-gt-LIMIT
returns-then-run-gt-LIMIT c =
    front_long _ _ _ (refl, refl, refl, refl) c.if-run-gt-LIMIT.true c.too_long.ensures

pub returns : goal.returns
returns c =
    front_starts _ _ c.if-run-gt-LIMIT.false c.start.ensures
